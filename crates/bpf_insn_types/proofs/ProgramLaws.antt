-- Where the instructions of a list stand.
use Rattle.std.proofs.Common.{◌≡◌, ◌≢◌, ℕ, zero, suc, ◌+◌, ◌-◌, ◌<◌, ◌≤◌, Bool, true, false, List, [], ◌∷◌, ◌++◌, take}
use Rattle.std.proofs.Common.{drop, length, get_or, refl, ap, sym, ◌∙◌, arith, add-one, lit≤, Option, Some, None}
use Rattle.std.{specs.{Prelude.{nat_lt, if◌then◌else◌}, List.{cons_option}}, proofs.lemmas.Bool.Decides.{nat_tests}}
use Rattle.bpf_insn_types.specs.{declared.insn.Insn.{Insn, TheVariants.{LoadImm}}, Slots.{slots_of}}
use Rattle.bpf_insn_types.specs.Program.{slot_count, insn_at, named_by, named_from}

-- an instruction takes 1 or 2 slots
pub slots_some : (x : Insn) → 1 ≤ slots_of x
slots_some (LoadImm kind dst imm next) = lit≤ tt
slots_some _ = lit≤ tt

pub slots_two : (x : Insn) → slots_of x ≤ 2
slots_two (LoadImm kind dst imm next) = lit≤ tt
slots_two _ = lit≤ tt

pub slot_count-append : (xs ys : List Insn) → slot_count (xs ++ ys) ≡ slot_count xs + slot_count ys
slot_count-append [] ys = omega arith
slot_count-append (x ∷ xs) ys = omega (arith, slot_count-append xs ys)

-- past the first instruction, and inside it
pub insn_at-past_first : (x : Insn) (xs : List Insn) (k : ℕ) → slots_of x ≤ k
    → insn_at (x ∷ xs) k ≡ insn_at xs (k - slots_of x)
insn_at-past_first x xs zero h = absurd (omega (arith, slots_some x))
insn_at-past_first x xs (suc k) h =
    let past : nat_lt (suc k) (slots_of x) ≡ false = grind (arith, nat_tests) in
    ap (λ (b : Bool). if b then None else insn_at xs (suc k - slots_of x)) past

pub insn_at-inner : (x : Insn) (xs : List Insn) (k : ℕ) → 0 < k → k < slots_of x → insn_at (x ∷ xs) k ≡ None
insn_at-inner x xs zero some h = absurd (omega arith)
insn_at-inner x xs (suc k) some h =
    let inside : nat_lt (suc k) (slots_of x) ≡ true = grind (arith, nat_tests) in
    ap (λ (b : Bool). if b then None else insn_at xs (suc k - slots_of x)) inside

-- past a list's slots
pub insn_at-past : (xs ys : List Insn) (k : ℕ) → slot_count xs ≤ k
    → insn_at (xs ++ ys) k ≡ insn_at ys (k - slot_count xs)
insn_at-past [] ys k h = ap (insn_at ys) (omega arith)
insn_at-past (x ∷ xs) ys k h =
    insn_at-past_first x (xs ++ ys) k (omega arith) ∙ insn_at-past xs ys (k - slots_of x) (omega arith)
    ∙ ap (insn_at ys) (omega arith)

pub insn_at-none : (k : ℕ) → insn_at [] k ≡ None
insn_at-none zero = refl
insn_at-none (suc k) = refl

pub insn_at-end : (xs : List Insn) (k : ℕ) → slot_count xs ≤ k → insn_at xs k ≡ None
insn_at-end [] k h = insn_at-none k
insn_at-end (x ∷ xs) k h = insn_at-past_first x xs k (omega arith) ∙ insn_at-end xs (k - slots_of x) (omega arith)

-- within a list's slots
pub insn_at-within : (xs ys : List Insn) (k : ℕ) → k < slot_count xs → insn_at (xs ++ ys) k ≡ insn_at xs k
insn_at-within [] ys k h = absurd (omega arith)
insn_at-within (x ∷ xs) ys zero h = refl
insn_at-within (x ∷ xs) ys (suc k) h = within_by x xs ys k h (nat_lt (suc k) (slots_of x)) refl
    (insn_at-within xs ys (suc k - slots_of x))
  where
    within_by : (x : Insn) (xs ys : List Insn) (k : ℕ) → suc k < slots_of x + slot_count xs → (b : Bool)
        → nat_lt (suc k) (slots_of x) ≡ b →
        (suc k - slots_of x < slot_count xs → insn_at (xs ++ ys) (suc k - slots_of x) ≡ insn_at xs (suc k - slots_of x))
        →
        insn_at (x ∷ (xs ++ ys)) (suc k) ≡ insn_at (x ∷ xs) (suc k)
    within_by x xs ys k h true e go = ap (λ (b : Bool). if b then None else insn_at (xs ++ ys) (suc k - slots_of x)) e
        ∙ sym (ap (λ (b : Bool). if b then None else insn_at xs (suc k - slots_of x)) e)
    within_by x xs ys k h false e go =
        let past : slots_of x ≤ suc k = grind (arith, nat_tests) in
        ap (λ (b : Bool). if b then None else insn_at (xs ++ ys) (suc k - slots_of x)) e
        ∙ go (omega (arith, slots_some x))
        ∙ sym (ap (λ (b : Bool). if b then None else insn_at xs (suc k - slots_of x)) e)

-- the instruction after a front
pub insn_at-front : (xs : List Insn) (x : Insn) (ys : List Insn) → insn_at (xs ++ (x ∷ ys)) (slot_count xs) ≡ Some x
insn_at-front xs x ys =
    let e : slot_count xs - slot_count xs ≡ 0 = omega arith in
    insn_at-past xs (x ∷ ys) (slot_count xs) (omega arith) ∙ ap (insn_at (x ∷ ys)) e

-- and inside it
pub insn_at-front_inner : (xs : List Insn) (x : Insn) (ys : List Insn) (k : ℕ) → slot_count xs < k
    → k < slot_count xs + slots_of x →
    insn_at (xs ++ (x ∷ ys)) k ≡ None
insn_at-front_inner xs x ys k m n = insn_at-past xs (x ∷ ys) k (omega arith) ∙ insn_at-inner x ys (k - slot_count xs)
    (omega arith) (omega arith)

-- the slots of a front with one instruction more
pub starts-push : (xs : List Insn) (x : Insn) (k : ℕ) → k ≢ slot_count xs → insn_at (xs ++ (x ∷ [])) k ≡ insn_at xs k
starts-push xs x k other = by_place xs x k other (nat_lt k (slot_count xs)) refl
  where
    by_inner : (xs : List Insn) (x : Insn) (k : ℕ) → slot_count xs < k → (b : Bool)
        → nat_lt k (slot_count xs + slots_of x) ≡ b →
        insn_at (xs ++ (x ∷ [])) k ≡ None
    by_inner xs x k m true e = insn_at-front_inner xs x [] k m (grind (arith, nat_tests))
    by_inner xs x k m false e =
        let past : slot_count xs + slots_of x ≤ k = grind (arith, nat_tests) in
        insn_at-end (xs ++ (x ∷ [])) k (omega (arith, slot_count-append xs (x ∷ [])))

    by_place : (xs : List Insn) (x : Insn) (k : ℕ) → k ≢ slot_count xs → (b : Bool) → nat_lt k (slot_count xs) ≡ b →
        insn_at (xs ++ (x ∷ [])) k ≡ insn_at xs k
    by_place xs x k other true e = insn_at-within xs (x ∷ []) k (grind (arith, nat_tests))
    by_place xs x k other false e =
        let past : slot_count xs ≤ k = grind (arith, nat_tests) in
        let more : slot_count xs < k = omega (arith, other) in
        by_inner xs x k more (nat_lt k (slot_count xs + slots_of x)) refl ∙ sym (insn_at-end xs k past)

-- what code addresses name in a front with one instruction more
pub named_from-push : (slot : ℕ) (xs : List Insn) (x : Insn) →
    named_from slot (xs ++ (x ∷ [])) ≡ named_from slot xs ++ cons_option (named_by (slot + slot_count xs) x) []
named_from-push slot [] x = ap (λ (s : ℕ). cons_option (named_by s x) []) (omega arith)
named_from-push slot (y ∷ xs) x =
    ap (cons_option (named_by slot y)) (named_from-push (slot + slots_of y) xs x
    ∙ ap (λ (s : ℕ). named_from (slot + slots_of y) xs ++ cons_option (named_by s x) []) (omega arith))
    ∙ onto (named_by slot y) (named_from (slot + slots_of y) xs)
    (cons_option (named_by (slot + (slots_of y + slot_count xs)) x) [])
  where
    onto : (t : Option ℕ) (xs ys : List ℕ) → cons_option t (xs ++ ys) ≡ cons_option t xs ++ ys
    onto None xs ys = refl
    onto (Some t) xs ys = refl

-- a list before, at and after an index
split_at-suc : (xs : List Insn) (i : ℕ) (x : Insn) → i < length xs → x ≡ get_or xs i x → xs ≡ take i xs
    ++ (x ∷ drop (suc i) xs)
split_at-suc [] i x h e = absurd (omega arith)
split_at-suc (y ∷ xs) zero x h e = ap (λ (z : Insn). z ∷ xs) (sym e)
split_at-suc (y ∷ xs) (suc i) x h e = ap (λ (zs : List Insn). y ∷ zs) (split_at-suc xs i x (omega arith) e)

pub split_at-index : (xs : List Insn) (i : ℕ) (x : Insn) → i < length xs → x ≡ get_or xs i x → xs ≡ take i xs
    ++ (x ∷ drop (i + 1) xs)
split_at-index xs i x h e = split_at-suc xs i x h e ∙ sym (ap (λ (n : ℕ). take i xs ++ (x ∷ drop n xs)) (add-one i))

take-suc : (xs : List Insn) (i : ℕ) (x : Insn) → i < length xs → x ≡ get_or xs i x → take (suc i) xs ≡ take i xs
    ++ (x ∷ [])
take-suc [] i x h e = absurd (omega arith)
take-suc (y ∷ xs) zero x h e = ap (λ (z : Insn). z ∷ []) (sym e)
take-suc (y ∷ xs) (suc i) x h e = ap (λ (zs : List Insn). y ∷ zs) (take-suc xs i x (omega arith) e)

pub take-more : (xs : List Insn) (i : ℕ) (x : Insn) → i < length xs → x ≡ get_or xs i x → take (i + 1) xs ≡ take i xs
    ++ (x ∷ [])
take-more xs i x h e = ap (λ (n : ℕ). take n xs) (add-one i) ∙ take-suc xs i x h e

-- a front and one instruction more
pub slot_count-more : (xs : List Insn) (i : ℕ) (x : Insn) → i < length xs → x ≡ get_or xs i x
    → slot_count (take (i + 1) xs) ≡ slot_count (take i xs) + slots_of x
slot_count-more xs i x h e = ap slot_count (take-more xs i x h e) ∙ slot_count-append (take i xs) (x ∷ [])
    ∙ ap (λ (n : ℕ). slot_count (take i xs) + n) (omega arith)

-- it isn't longer than the whole
pub slot_count-front : (xs : List Insn) (i : ℕ) (x : Insn) → i < length xs → x ≡ get_or xs i x → slot_count (take i xs)
    + slots_of x ≤ slot_count xs
slot_count-front xs i x h e =
    let whole : slot_count xs ≡ slot_count (take i xs) + (slots_of x + slot_count (drop (i + 1) xs)) =
    ap slot_count (split_at-index xs i x h e) ∙ slot_count-append (take i xs) (x ∷ drop (i + 1) xs) in
    omega arith

-- what is at the slot after a front
pub insn_at-index : (xs : List Insn) (i : ℕ) (x : Insn) → i < length xs → x ≡ get_or xs i x
    → insn_at xs (slot_count (take i xs)) ≡ Some x
insn_at-index xs i x h e =
    ap (λ (zs : List Insn). insn_at zs (slot_count (take i xs))) (split_at-index xs i x h e)
    ∙ insn_at-front (take i xs) x (drop (i + 1) xs)

-- and inside the instruction there
pub insn_at-index_inner : (xs : List Insn) (i : ℕ) (x : Insn) (k : ℕ) → i < length xs → x ≡ get_or xs i x →
    slot_count (take i xs) < k → k < slot_count (take i xs) + slots_of x → insn_at xs k ≡ None
insn_at-index_inner xs i x k h e m n =
    ap (λ (zs : List Insn). insn_at zs k) (split_at-index xs i x h e)
    ∙ insn_at-front_inner (take i xs) x (drop (i + 1) xs) k m n

-- all of it
pub take-whole : (xs : List Insn) (i : ℕ) → length xs ≤ i → take i xs ≡ xs
take-whole [] zero h = refl
take-whole [] (suc i) h = refl
take-whole (x ∷ xs) zero h = absurd (omega arith)
take-whole (x ∷ xs) (suc i) h = ap (λ (zs : List Insn). x ∷ zs) (take-whole xs i (omega arith))
