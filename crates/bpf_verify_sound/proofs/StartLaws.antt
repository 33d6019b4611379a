-- Where callbacks start.
use Rattle.bpf_insn_types.proofs.ProgramLaws.{insn_at-end}
use Rattle.bpf_insn_types.specs.Program.{insn_at, named_by, named_from, is_callback_start, slot_count, callback_starts}
use Rattle.bpf_insn_types.specs.{Program.{function_of, Program}, Slots.{slots_of}, declared.insn.Insn.{Insn}}
use Rattle.bpf_step_model.specs.SoundMachine.{IsStart}
use Rattle.bpf_verify_model.specs.Count.{function_start}
use Rattle.std.proofs.Common.{◌≡◌, ℕ, zero, suc, ◌+◌, ◌-◌, ◌<◌, ◌≤◌, Bool, true, false, cond, ◌&&◌, List, [], ◌∷◌}
use Rattle.std.proofs.Common.{Option, Some, None, is_some, refl, sym, ap, ◌∙◌, arith, get_or}
use Rattle.std.proofs.lemmas.{Bool.Decides.{nat_tests}, List.Sums.{sum_by-cons}, Map.Views.{any-filter_same}}
use Rattle.std.specs.List.{list_any, filter, count_by, range_with_len, cons_option}
use Rattle.std.specs.Prelude.{nat_lt, nat_le, nat_eq, ◌==◌}
use Rattle.bpf_verify_sound.proofs.Tests.{later-some}

-- what is found among more is found
found-more : (test : ℕ → Bool) (o : Option ℕ) (xs : List ℕ) → list_any test xs ≡ true → list_any test (cons_option o xs)
    ≡ true
found-more test None xs e = e
found-more test (Some x) xs e = grind (arith, nat_tests)

-- what an instruction names is among what all name
named-there : (from k : ℕ) (insns : List Insn) (insn : Insn) (target : ℕ) → insn_at insns k ≡ Some insn
    → named_by (from + k) insn ≡ Some target →
    list_any (nat_eq target) (named_from from insns) ≡ true
named-there from k [] insn target here named = absurd cc
named-there from zero (x ∷ insns) insn target here named =
    let same : x ≡ insn = cc in
    let at : from + 0 ≡ from = omega arith in
    let names : named_by from x ≡ Some target = rw (same, ← at) named in
    rw names (grind (arith, nat_tests))
named-there from (suc k) (x ∷ insns) insn target here named =
    let rest = later-some (nat_lt (suc k) (slots_of x)) insn _ here in
    let outer : nat_lt (suc k) (slots_of x) ≡ false = rest.0 in
    let past : slots_of x ≤ suc k = grind (arith, nat_tests) in
    let at : from + slots_of x + (suc k - slots_of x) ≡ from + suc k = omega arith in
    found-more (nat_eq target) (named_by from x) (named_from (from + slots_of x) insns)
    (named-there (from + slots_of x) (suc k - slots_of x) insns insn target rest.1 (rw at named))

-- a slot of a range
range-there : (from count target : ℕ) → from ≤ target → target < from + count → list_any (λ start. start == target)
    (range_with_len from count) ≡ true
range-there from zero target low high = absurd (omega arith)
range-there from (suc count) target low high = grind (arith, nat_tests, range-there (from + 1) count target)

-- an instruction starts within the slots
starts-within : (insns : List Insn) (target : ℕ) → is_some (insn_at insns target) ≡ true → target < slot_count insns
starts-within insns target there = grind (arith, nat_tests, insn_at-end insns target)

-- a slot that an instruction names, and at which one starts, is where a callback starts
pub start-there : (insns : List Insn) (slot : ℕ) (insn : Insn) (target : ℕ) → insn_at insns slot ≡ Some insn
    → named_by slot insn ≡ Some target → is_some (insn_at insns target) ≡ true →
    list_any (λ start. start == target) (callback_starts insns) ≡ true
start-there insns slot insn target here named there =
    let names : named_by (0 + slot) insn ≡ Some target = ap (λ (s : ℕ). named_by s insn) (omega arith) ∙ named in
    let starts : is_callback_start insns (named_from 0 insns) target ≡ true =
    rw (named-there 0 slot insns insn target here names) there in
    any-filter_same (λ (start : ℕ). start == target) (is_callback_start insns (named_from 0 insns)) true
    (λ k e.
    let same : k ≡ target = grind (arith, nat_tests) in
    ap (is_callback_start insns (named_from 0 insns)) same ∙ starts)
    (range_with_len 0 (slot_count insns))
    ∙ range-there 0 (slot_count insns) target (omega arith) (let inside : target < slot_count insns = starts-within
    insns target there in omega arith)

-- a start among those of which none is at or before a slot
later-start : (starts : List ℕ) (slot start : ℕ) → list_any (λ callback. callback == start) starts ≡ true
    → count_by (λ callback. nat_le callback slot) starts ≡ 0 → slot < start
later-start [] slot start there none_before = absurd cc
later-start (x ∷ starts) slot start there none_before =
    grind (
      arith,
      nat_tests,
      later-start starts slot start,
      sum_by-cons (λ (callback : ℕ). cond (nat_le callback slot) 1 0) x starts,
    )

-- a callback starts after all of main
pub start-later : (insns : List Insn) (slot start : ℕ) → list_any (λ callback. callback == start)
    (callback_starts insns) ≡ true → function_of insns slot ≡ 0 → slot < start
start-later insns slot start there main = later-start (callback_starts insns) slot start there main

-- no instruction names slot 0
insn-first : (slot : ℕ) (insn : Insn) → list_any (nat_eq 0) (cons_option (named_by slot insn) []) ≡ false
insn-first slot insn = grind (arith, nat_tests)

first-unnamed : (from : ℕ) (insns : List Insn) → list_any (nat_eq 0) (named_from from insns) ≡ false
first-unnamed from [] = refl
first-unnamed from (x ∷ insns) =
    grind (arith, nat_tests, insn-first from x, first-unnamed (from + slots_of x) insns)

-- so none of the starts is at slot 0
none-first : (p : ℕ → Bool) (xs : List ℕ) → p 0 ≡ false → count_by (λ start. nat_le start 0) (filter p xs) ≡ 0
none-first p [] e = refl
none-first p (x ∷ xs) e =
    grind (arith, nat_tests, none-first p xs e, sum_by-cons (λ (start : ℕ). cond (nat_le start 0) 1 0) x (filter p xs))

-- main starts at slot 0
pub main-first : (insns : List Insn) → function_of insns 0 ≡ 0
main-first insns =
    none-first (is_callback_start insns (named_from 0 insns)) (range_with_len 0 (slot_count insns))
    (ap (λ (b : Bool). b && is_some (insn_at insns 0)) (first-unnamed 0 insns))

-- an instruction starts where a callback does
pub start-stands : (insns : List Insn) (start : ℕ) → list_any (λ callback. callback == start) (callback_starts insns)
    ≡ true → is_some (insn_at insns start) ≡ true
start-stands insns start there = by_test (is_some (insn_at insns start)) refl
  where
    and-false : (a : Bool) → (a && false) ≡ false
    and-false true = refl
    and-false false = refl

    by_test : (stands : Bool) → is_some (insn_at insns start) ≡ stands → is_some (insn_at insns start) ≡ true
    by_test true f = f
    by_test false f =
        let none_there = any-filter_same (λ (callback : ℕ). callback == start)
        (is_callback_start insns (named_from 0 insns)) false (λ k g.
        let same : k ≡ start = grind (arith, nat_tests) in
        rw (same, f) (and-false (list_any (nat_eq start) (named_from 0 insns)))) (range_with_len 0 (slot_count insns))
        in
        absurd (let t = sym none_there ∙ there in cc)

-- whether a slot is among some, and how many of them aren't after it
is_among : ℕ → List ℕ → Bool
is_among slot starts = list_any (λ start. start == slot) starts

up_to : ℕ → List ℕ → ℕ
up_to slot starts = count_by (λ start. nat_le start slot) starts

up_to-cons : (slot x : ℕ) (xs : List ℕ) (early : Bool) → nat_le x slot ≡ early → up_to slot (x ∷ xs) ≡ cond early 1 0
    + up_to slot xs
unfolding up_to
up_to-cons slot x xs early e = sum_by-cons (λ (start : ℕ). cond (nat_le start slot) 1 0) x xs
    ∙ ap (λ (b : Bool). cond b 1 0 + count_by (λ start. nat_le start slot) xs) e

module _ (p : ℕ → Bool) where
  -- the slots of a stretch that pass a test
  abbrev pub kept : ℕ → ℕ → List ℕ
  kept from count = filter p (range_with_len from count)

  -- none is before the stretch
  none-before : (from count slot : ℕ) → slot < from → up_to slot (kept from count) ≡ 0
  unfolding up_to
  none-before from zero slot h = refl
  none-before from (suc count) slot h =
      grind (
        arith,
        nat_tests,
        none-before (from + 1) count slot,
        sum_by-cons (λ (start : ℕ). cond (nat_le start slot) 1 0) from (kept (from + 1) count),
      )

  among-later : (from count slot : ℕ) → is_among slot (kept from count) ≡ true → from ≤ slot
  unfolding is_among
  among-later from zero slot there = absurd cc
  among-later from (suc count) slot there = grind (arith, nat_tests, among-later (from + 1) count slot)

  -- a slot among them is at the place of how many before it aren't after it
  placed : (from count slot : ℕ) → is_among slot (kept from count) ≡ true
      → (n : ℕ) × (up_to slot (kept from count) ≡ suc n) × (get_or (kept from count) n 0 ≡ slot)
  unfolding is_among
  placed from zero slot there = absurd cc
  placed from (suc count) slot there = by_test (p from) (from == slot) refl there (placed (from + 1) count slot)
    where
      IsPlaced : List ℕ → Type 0
      IsPlaced starts = (n : ℕ) × (up_to slot starts ≡ suc n) × (get_or starts n 0 ≡ slot)

      by_test : (keep here : Bool) → (from == slot) ≡ here
          → is_among slot (cond keep (from ∷ kept (from + 1) count) (kept (from + 1) count)) ≡ true
          → (is_among slot (kept (from + 1) count) ≡ true → IsPlaced (kept (from + 1) count)) →
          IsPlaced (cond keep (from ∷ kept (from + 1) count) (kept (from + 1) count))
      by_test false here e there go = go there
      by_test true true e there go =
          let same : from ≡ slot = grind (arith, nat_tests) in
          let early : nat_le from slot ≡ true = grind (arith, nat_tests) in (
            0,
            omega (
              arith,
              up_to-cons slot from (kept (from + 1) count) true early,
              none-before (from + 1) count slot (omega arith),
            ),
            same,
          )
      by_test true false e there go =
          let later : is_among slot (kept (from + 1) count) ≡ true = rw e at there in
          let past : from + 1 ≤ slot = among-later (from + 1) count slot later in
          let early : nat_le from slot ≡ true = grind (arith, nat_tests) in
          let rest = go later in
          (suc rest.0, omega (arith, up_to-cons slot from (kept (from + 1) count) true early, rest.1), rest.2)

-- so the function of a start has its start there
pub start-function : (program : Program) (slot : ℕ) → IsStart program slot
    → function_start program.insns (function_of program.insns slot) ≡ slot
unfolding is_among up_to
start-function program slot start =
    let it = placed (is_callback_start program.insns (named_from 0 program.insns)) 0 (slot_count program.insns) slot
    start in
    rw it.1 it.2
