-- Where callbacks start, from slot to slot.
use Rattle.std.proofs.Common.{◌≡◌, ℕ, zero, suc, ◌+◌, ◌-◌, ◌<◌, ◌≤◌, Bool, true, false, ◌&&◌, List, [], ◌∷◌, ◌++◌}
use Rattle.std.proofs.Common.{length, get_or, refl, ap, sym, ◌∙◌, arith, Option, Some, None, is_some, cond}
use Rattle.std.specs.Prelude.{nat_eq, nat_lt, nat_le, if◌then◌else◌, filter, option_to_list}
use Rattle.std.{specs.List.{list_any, range_with_len}, proofs.lemmas.Bool.Decides.{nat_tests}}
use Rattle.std.proofs.lemmas.List.{FromFn.{length-range_with_len}, Sums.{length-filter, count_by-le-length}}
use Rattle.bpf_insn_types.{specs.{declared.insn.Insn.{Insn}, Program.{function_of}}, proofs.ProgramLaws.{insn_at-end}}
use Rattle.bpf_insn_types.specs.Program.{slot_count, insn_at, named_from, is_callback_start, callback_starts}
use Rattle.bpf_verify.specs.Layout.{function_starting_at}

-- a filter of one number more
pub filter-more : (p : ℕ → Bool) (a n : ℕ) →
    filter p (range_with_len a (suc n)) ≡ filter p (range_with_len a n) ++ option_to_list (if p (a + n)
    then Some (a + n) else None)
filter-more p a zero = first p a (a + 0) (omega arith)
  where
    by_test : (a : ℕ) (b : Bool) → (if b then a ∷ [] else []) ≡ option_to_list (if b then Some a else None)
    by_test a true = refl
    by_test a false = refl

    first : (p : ℕ → Bool) (a b : ℕ) → b ≡ a → filter p (a ∷ []) ≡ option_to_list (if p b then Some b else None)
    first p a b e = by_test a (p a) ∙ ap (λ (c : ℕ). option_to_list (if p c then Some c else None)) (sym e)
filter-more p a (suc n) =
    let e : a + 1 + n ≡ a + suc n = omega arith in
    onto p a (p a) (range_with_len (a + 1) (suc n)) (range_with_len (a + 1) n) (option_to_list (if p (a + suc n)
    then Some (a + suc n) else None))
    (filter-more p (a + 1) n ∙ ap (λ (c : ℕ). filter p (range_with_len (a + 1) n) ++ option_to_list (if p c then Some c
    else None)) e)
  where
    onto : (p : ℕ → Bool) (a : ℕ) (b : Bool) (xs ys zs : List ℕ) → filter p xs ≡ filter p ys ++ zs →
        (if b then a ∷ filter p xs else filter p xs) ≡ (if b then a ∷ filter p ys else filter p ys) ++ zs
    onto p a true xs ys zs e = ap (λ (l : List ℕ). a ∷ l) e
    onto p a false xs ys zs e = e

-- numbers above one are none of those up to it
filter-above : (p : ℕ → Bool) (k a n : ℕ) → k < a → filter (λ (start : ℕ). nat_le start k)
    (filter p (range_with_len a n)) ≡ []
filter-above p k a zero h = refl
filter-above p k a (suc n) h = by_test p k a n (p a) h (filter-above p k (a + 1) n (omega arith))
  where
    by_test : (p : ℕ → Bool) (k a n : ℕ) (b : Bool) → k < a →
        filter (λ (start : ℕ). nat_le start k) (filter p (range_with_len (a + 1) n)) ≡ [] →
        filter (λ (start : ℕ). nat_le start k) (cond b (a ∷ filter p (range_with_len (a + 1) n))
        (filter p (range_with_len (a + 1) n))) ≡ []
    by_test p k a n true h rest =
        let above : nat_le a k ≡ false = grind (arith, nat_tests) in
        ap (λ (b : Bool). cond b (a ∷ filter (λ (start : ℕ). nat_le start k) (filter p (range_with_len (a + 1) n)))
        (filter (λ (start : ℕ). nat_le start k) (filter p (range_with_len (a + 1) n)))) above ∙ rest
    by_test p k a n false h rest = rest

-- those that a filter keeps, up to one of them
filter-up_to : (p : ℕ → Bool) (k a n : ℕ) → k < a + n → a ≤ k + 1 →
    filter (λ (start : ℕ). nat_le start k) (filter p (range_with_len a n)) ≡ filter p (range_with_len a (k + 1 - a))
filter-up_to p k a zero h m =
    let e : k + 1 - a ≡ 0 = omega arith in
    sym (ap (λ (c : ℕ). filter p (range_with_len a c)) e)
filter-up_to p k a (suc n) h m = by_place p k a n h m (nat_le a k) refl (filter-up_to p k (a + 1) n (omega arith))
  where
    by_test : (p : ℕ → Bool) (k a : ℕ) (b : Bool) (xs ys : List ℕ) → nat_le a k ≡ true
        → filter (λ (start : ℕ). nat_le start k) xs ≡ ys →
        filter (λ (start : ℕ). nat_le start k) (cond b (a ∷ xs) xs) ≡ cond b (a ∷ ys) ys
    by_test p k a true xs ys e rest =
        ap (λ (b : Bool). cond b (a ∷ filter (λ (start : ℕ). nat_le start k) xs) (filter (λ (start : ℕ). nat_le start k)
        xs)) e ∙ ap (λ (l : List ℕ). a ∷ l) rest
    by_test p k a false xs ys e rest = rest

    by_place : (p : ℕ → Bool) (k a n : ℕ) → k < a + suc n → a ≤ k + 1 → (b : Bool) → nat_le a k ≡ b →
        (a + 1 ≤ k + 1 → filter (λ (start : ℕ). nat_le start k) (filter p (range_with_len (a + 1) n))
        ≡ filter p (range_with_len (a + 1) (k + 1 - (a + 1)))) →
        filter (λ (start : ℕ). nat_le start k) (filter p (range_with_len a (suc n)))
        ≡ filter p (range_with_len a (k + 1 - a))
    by_place p k a n h m true e go =
        let low : a ≤ k = grind (arith, nat_tests) in
        let length_is : k + 1 - a ≡ suc (k + 1 - (a + 1)) = omega arith in
        by_test p k a (p a) (filter p (range_with_len (a + 1) n)) (filter p (range_with_len (a + 1) (k + 1 - (a + 1))))
        e (go (omega arith))
        ∙ sym (ap (λ (c : ℕ). filter p (range_with_len a c)) length_is)
    by_place p k a n h m false e go =
        let high : k < a = grind (arith, nat_tests) in
        let length_is : k + 1 - a ≡ 0 = omega arith in
        filter-above p k a (suc n) high ∙ sym (ap (λ (c : ℕ). filter p (range_with_len a c)) length_is)

-- whether a callback starts at a slot
abbrev pub starts_at : List Insn → ℕ → Bool
starts_at insns = is_callback_start insns (named_from 0 insns)

-- the function of a slot is the number of callbacks that start up to it
pub function_of-starts : (insns : List Insn) (slot : ℕ) → slot < slot_count insns →
    function_of insns slot ≡ length (filter (starts_at insns) (range_with_len 0 (suc slot)))
function_of-starts insns slot h =
    let e : slot + 1 - 0 ≡ suc slot = omega arith in
    sym (length-filter (λ (start : ℕ). nat_le start slot) (callback_starts insns))
    ∙ ap length (filter-up_to (starts_at insns) slot 0 (slot_count insns) (omega arith) (omega arith))
    ∙ ap (λ (c : ℕ). length (filter (starts_at insns) (range_with_len 0 c))) e

-- there are at most as many as slots
pub starts-few : (insns : List Insn) (n : ℕ) → length (filter (starts_at insns) (range_with_len 0 n)) ≤ n
starts-few insns n =
    omega (
      arith,
      length-filter (starts_at insns) (range_with_len 0 n),
      count_by-le-length (starts_at insns)
          (range_with_len 0 n),
      length-range_with_len 0 n,
    )

-- the starts with one slot more
pub starts-more : (insns : List Insn) (starts starts' : List ℕ) (slot : ℕ) (start : Option ℕ) (named begins : Bool) →
    starts ≡ filter (starts_at insns) (range_with_len 0 slot) → starts' ≡ starts ++ option_to_list start →
    start ≡ (if named && begins then Some slot else None) → named ≡ list_any (nat_eq slot) (named_from 0 insns) →
    begins ≡ is_some (insn_at insns slot) → starts' ≡ filter (starts_at insns) (range_with_len 0 (suc slot))
starts-more insns starts starts' slot start named begins so_far pushed is named_is begins_is =
    let test : (named && begins) ≡ starts_at insns slot = ap (λ (b : Bool). b && begins) named_is
    ∙ ap (λ (b : Bool). list_any (nat_eq slot) (named_from 0 insns) && b) begins_is in
    let e : 0 + slot ≡ slot = omega arith in
    pushed ∙ ap (λ (l : List ℕ). l ++ option_to_list start) so_far
    ∙ ap (λ (s : Option ℕ). filter (starts_at insns) (range_with_len 0 slot) ++ option_to_list s) (is
    ∙ ap (λ (b : Bool). if b then Some slot else None) test)
    ∙ sym (filter-more (starts_at insns) 0 slot ∙ ap (λ (c : ℕ). filter (starts_at insns) (range_with_len 0 slot)
    ++ option_to_list (if starts_at insns c then Some c else None)) e)

-- one element more
pub get_or-push-below : {A : Type 0} (xs : List A) (y d : A) (k : ℕ) → k < length xs → get_or (xs ++ (y ∷ [])) k d
    ≡ get_or xs k d
get_or-push-below [] y d k h = absurd (omega arith)
get_or-push-below (x ∷ xs) y d zero h = refl
get_or-push-below (x ∷ xs) y d (suc k) h = get_or-push-below xs y d k (omega arith)

pub get_or-push-at : {A : Type 0} (xs : List A) (y d : A) (k : ℕ) → k ≡ length xs → get_or (xs ++ (y ∷ [])) k d ≡ y
get_or-push-at [] y d k h = ap (λ (i : ℕ). get_or (y ∷ []) i d) h
get_or-push-at (x ∷ xs) y d zero h = absurd (omega arith)
get_or-push-at (x ∷ xs) y d (suc k) h = get_or-push-at xs y d k (omega arith)

get_or-end : {A : Type 0} (xs : List A) (d : A) (k : ℕ) → length xs ≤ k → get_or xs k d ≡ d
get_or-end [] d k h = refl
get_or-end (x ∷ xs) d zero h = absurd (omega arith)
get_or-end (x ∷ xs) d (suc k) h = get_or-end xs d k (omega arith)

-- the places with one slot more
place-here : (insns : List Insn) (starts : List ℕ) (slot function : ℕ) (place : Option ℕ) (begins : Bool) →
    starts ≡ filter (starts_at insns) (range_with_len 0 (suc slot)) → function ≡ length starts →
    place ≡ (if begins then Some function else None) → begins ≡ is_some (insn_at insns slot) → slot < slot_count insns →
    place ≡ function_starting_at insns slot
place-here insns starts slot function place begins starts_are counted place_is begins_is inside =
    let f : function ≡ function_of insns slot = counted ∙ ap length starts_are
    ∙ sym (function_of-starts insns slot inside) in
    place_is ∙ ap (λ (b : Bool). if b then Some function else None) begins_is
    ∙ ap (λ (n : ℕ). if is_some (insn_at insns slot) then Some n else None) f

pub places-more : (insns : List Insn) (places places' : List (Option ℕ)) (starts : List ℕ) (slot function : ℕ)
    (place : Option ℕ) (begins : Bool) →
    length places ≡ slot → ((k : ℕ) → k < slot → get_or places k None ≡ function_starting_at insns k) → places' ≡ places
    ++ (place ∷ []) →
    starts ≡ filter (starts_at insns) (range_with_len 0 (suc slot)) → function ≡ length starts →
    place ≡ (if begins then Some function else None) → begins ≡ is_some (insn_at insns slot) → slot < slot_count insns →
    (k : ℕ) → k < slot + 1 → get_or places' k None ≡ function_starting_at insns k
places-more insns places places' starts slot function place begins size so_far pushed starts_are counted place_is
    begins_is inside k h =
    ap (λ (l : List (Option ℕ)). get_or l k None) pushed
    ∙ by_place insns places slot place size so_far (place-here insns starts slot function place begins starts_are
    counted place_is begins_is inside) k h (nat_lt k slot) refl
  where
    by_place : (insns : List Insn) (places : List (Option ℕ)) (slot : ℕ) (place : Option ℕ) → length places ≡ slot →
        ((k : ℕ) → k < slot → get_or places k None ≡ function_starting_at insns k) → place ≡ function_starting_at insns
        slot → (k : ℕ) → k < slot + 1 →
        (b : Bool) → nat_lt k slot ≡ b → get_or (places ++ (place ∷ [])) k None ≡ function_starting_at insns k
    by_place insns places slot place size so_far here k h true e =
        let below : k < slot = grind (arith, nat_tests) in
        get_or-push-below places place None k (omega arith) ∙ so_far k below
    by_place insns places slot place size so_far here k h false e =
        let past : slot ≤ k = grind (arith, nat_tests) in
        let same : k ≡ slot = omega arith in
        get_or-push-at places place None k (omega arith) ∙ here ∙ sym (ap (function_starting_at insns) same)

-- all places
pub places-all : (insns : List Insn) (places : List (Option ℕ)) (n : ℕ) → length places ≡ n → slot_count insns ≤ n →
    ((k : ℕ) → k < n → get_or places k None ≡ function_starting_at insns k) → (k : ℕ)
    → get_or places k None ≡ function_starting_at insns k
places-all insns places n size all so_far k = by_place insns places n size all so_far k (nat_lt k n) refl
  where
    by_place : (insns : List Insn) (places : List (Option ℕ)) (n : ℕ) → length places ≡ n → slot_count insns ≤ n →
        ((k : ℕ) → k < n → get_or places k None ≡ function_starting_at insns k) → (k : ℕ) (b : Bool) → nat_lt k n ≡ b
        → get_or places k None ≡ function_starting_at insns k
    by_place insns places n size all so_far k true e = so_far k (grind (arith, nat_tests))
    by_place insns places n size all so_far k false e =
        let past : n ≤ k = grind (arith, nat_tests) in
        get_or-end places None k (omega arith)
        ∙ sym (ap (λ (i : Option Insn). if is_some i then Some (function_of insns k) else None)
        (insn_at-end insns k (omega arith)))
