-- Marks of slots, by the instructions of a list.
use Rattle.std.proofs.Common.{◌≡◌, ◌≢◌, ℕ, ◌+◌, ◌<◌, ◌≤◌, Bool, true, false, ◌||◌, List, [], ◌∷◌, ◌++◌, length, get_or}
use Rattle.std.proofs.Common.{set, take, refl, ap, sym, ◌∙◌, subst, arith, Option, Some, None, is_some}
use Rattle.std.{specs.{Prelude.{nat_eq}, List.{list_any, cons_option}}, proofs.lemmas.Bool.Decides.{nat_tests}}
use Rattle.std.proofs.lemmas.List.{get_or-set_same, get_or-set_other, Folds.{list_any-append}}
use Rattle.std.proofs.Math.ListN.{length-set}
use Rattle.bpf_insn_types.specs.{declared.insn.Insn.{Insn}, Program.{slot_count, insn_at}, Slots.{slots_of}}
use Rattle.bpf_insn_types.proofs.ProgramLaws.{slot_count-front, insn_at-front, starts-push}
use Rattle.bpf_verify.specs.SlotFlags.{slot_flagged}

-- an instruction at a slot ends within the list
pub ends-within : (insns : List Insn) (i slot size count : ℕ) (x : Insn) → i < length insns → x ≡ get_or insns i x
    → slot ≡ slot_count (take i insns) → size ≡ slots_of x → slot_count insns ≡ count → slot + size ≤ count
ends-within insns i slot size count x inside is low long whole =
    omega (arith, slot_count-front insns i x inside is, low, long, whole)

-- the marks of a front with one instruction more
pub begin-step : (xs : List Insn) (x : Insn) (marks : List Bool)
    → ((k : ℕ) → get_or marks k false ≡ is_some (insn_at xs k)) →
    slot_count xs < length marks → (k : ℕ) → get_or (set marks (slot_count xs) true) k false
    ≡ is_some (insn_at (xs ++ (x ∷ [])) k)
begin-step xs x marks so_far inside k = by_place xs x marks so_far inside k (nat_eq k (slot_count xs)) refl
  where
    by_place : (xs : List Insn) (x : Insn) (marks : List Bool)
        → ((k : ℕ) → get_or marks k false ≡ is_some (insn_at xs k)) →
        slot_count xs < length marks → (k : ℕ) (b : Bool) → nat_eq k (slot_count xs) ≡ b →
        get_or (set marks (slot_count xs) true) k false ≡ is_some (insn_at (xs ++ (x ∷ [])) k)
    by_place xs x marks so_far inside k true e =
        let here : k ≡ slot_count xs = grind (arith, nat_tests) in
        ap (λ (j : ℕ). get_or (set marks (slot_count xs) true) j false) here ∙ get_or-set_same marks (slot_count xs)
        true false inside
        ∙ sym (ap is_some (ap (insn_at (xs ++ (x ∷ []))) here ∙ insn_at-front xs x []))
    by_place xs x marks so_far inside k false e =
        let other : k ≢ slot_count xs = grind (arith, nat_tests) in
        get_or-set_other marks (slot_count xs) k true false other ∙ so_far k
        ∙ sym (ap is_some (starts-push xs x k other))

-- marks of named slots with one more
named-step : (named : List ℕ) (target : Option ℕ) (marks : List Bool) (k : ℕ) → k < length marks →
    get_or marks k false ≡ list_any (nat_eq k) named → (after : List Bool) → (target ≡ None → after ≡ marks) →
    ((t : ℕ) → target ≡ Some t → after ≡ set marks t true) →
    get_or after k false ≡ list_any (nat_eq k) (named ++ cons_option target [])
named-step named None marks k inside so_far after none some =
    ap (λ (m : List Bool). get_or m k false) (none refl) ∙ so_far ∙ sym (list_any-append (nat_eq k) named []
    ∙ or_false (list_any (nat_eq k) named))
  where
    or_false : (b : Bool) → (b || false) ≡ b
    or_false true = refl
    or_false false = refl
named-step named (Some t) marks k inside so_far after none some =
    ap (λ (m : List Bool). get_or m k false) (some t refl) ∙ by_place named t marks k inside so_far (nat_eq k t) refl
    ∙ sym (list_any-append (nat_eq k) named (t ∷ []))
  where
    or_true : (b : Bool) → true ≡ (b || (true || false))
    or_true true = refl
    or_true false = refl

    or_false : (b : Bool) → b ≡ (b || (false || false))
    or_false true = refl
    or_false false = refl

    by_place : (named : List ℕ) (t : ℕ) (marks : List Bool) (k : ℕ) → k < length marks
        → get_or marks k false ≡ list_any (nat_eq k) named →
        (b : Bool) → nat_eq k t ≡ b → get_or (set marks t true) k false ≡ (list_any (nat_eq k) named
        || list_any (nat_eq k) (t ∷ []))
    by_place named t marks k inside so_far true e =
        let here : k ≡ t = grind (arith, nat_tests) in
        ap (λ (j : ℕ). get_or (set marks t true) j false) here ∙ get_or-set_same marks t true false
        (subst (λ (j : ℕ). j < length marks) here inside)
        ∙ or_true (list_any (nat_eq k) named) ∙ ap (λ (b : Bool). list_any (nat_eq k) named || (b || false)) (sym e)
    by_place named t marks k inside so_far false e =
        let other : k ≢ t = grind (arith, nat_tests) in
        get_or-set_other marks t k true false other ∙ so_far ∙ or_false (list_any (nat_eq k) named)
        ∙ ap (λ (b : Bool). list_any (nat_eq k) named || (b || false)) (sym e)

pub named-marked : (named : List ℕ) (target : Option ℕ) (marks : List Bool) (k : ℕ) → k < length marks →
    get_or marks k false ≡ list_any (nat_eq k) named →
    get_or (slot_flagged marks target) k false ≡ list_any (nat_eq k) (named ++ cons_option target [])
named-marked named None marks k inside so_far = named-step named None marks k inside so_far marks (λ _. refl)
    (λ t e. cc)
named-marked named (Some s) marks k inside so_far =
    named-step named (Some s) marks k inside so_far (set marks s true) (λ e. cc) (λ t e. let same : s ≡ t = cc in
    ap (λ (n : ℕ). set marks n true) same)

pub length-marked : (marks : List Bool) (target : Option ℕ) → length (slot_flagged marks target) ≡ length marks
length-marked marks None = refl
length-marked marks (Some s) = length-set marks s true
