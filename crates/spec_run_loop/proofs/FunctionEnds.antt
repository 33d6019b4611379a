-- Where functions end.
use Rattle.std.proofs.Common.{◌≡◌, ℕ, zero, suc, ◌+◌, ◌<◌, ◌≤◌, Bool, true, false, cond, inl, inr, List, []}
use Rattle.std.{proofs.Common.{◌∷◌, length, get_or, is_some, refl, sym, ap, ◌∙◌, subst, arith}, specs.Prelude.{nat_le}}
use Rattle.std.specs.List.{filter, count_by, range_with_len}
use Rattle.std.proofs.lemmas.Bool.{cases_Bool, cases_lt, Decides.{nat_tests}}
use Rattle.std.proofs.lemmas.List.{get_or_default, get_or_past, Sums.{sum_by-cons}}
use Rattle.bpf_insn_types.{specs.declared.insn.Insn.{Insn}, proofs.ProgramLaws.{insn_at-end}}
use Rattle.bpf_insn_types.specs.Program.{Program, slot_count, insn_at, named_from, is_callback_start, callback_starts}
use Rattle.bpf_verify_model.specs.Count.{function_start}
use Rattle.bpf_step_model.specs.SoundMachine.{IsStart}
use Rattle.bpf_verify_sound.proofs.StartLaws.{start-stands}
use Rattle.spec_run_loop.specs.SumLoops.{function_end}

-- how many of some slots aren't after one
up_to : ℕ → List ℕ → ℕ
up_to slot starts = count_by (λ start. nat_le start slot) starts

up_to-cons : (slot x : ℕ) (xs : List ℕ) (early : Bool) → nat_le x slot ≡ early → up_to slot (x ∷ xs) ≡ cond early 1 0
    + up_to slot xs
unfolding up_to
up_to-cons slot x xs early e = sum_by-cons (λ (start : ℕ). cond (nat_le start slot) 1 0) x xs
    ∙ ap (λ (b : Bool). cond b 1 0 + count_by (λ start. nat_le start slot) xs) e

up_to-early : (slot x : ℕ) (xs : List ℕ) → x ≤ slot → up_to slot (x ∷ xs) ≡ suc (up_to slot xs)
up_to-early slot x xs h =
    let early : nat_le x slot ≡ true = grind (arith, nat_tests) in
    let one : up_to slot (x ∷ xs) ≡ 1 + up_to slot xs = up_to-cons slot x xs true early in
    omega arith

up_to-late : (slot x : ℕ) (xs : List ℕ) → slot < x → up_to slot (x ∷ xs) ≡ up_to slot xs
up_to-late slot x xs h =
    let late : nat_le x slot ≡ false = grind (arith, nat_tests) in
    let one : up_to slot (x ∷ xs) ≡ 0 + up_to slot xs = up_to-cons slot x xs false late in
    omega arith

-- all of them
all_early : (slot : ℕ) (xs : List ℕ) → ((k : ℕ) → k < length xs → get_or xs k 0 ≤ slot) → up_to slot xs ≡ length xs
unfolding up_to
all_early slot [] early = refl
all_early slot (x ∷ xs) early =
    let rest : up_to slot xs ≡ length xs = all_early slot xs (λ k h. early (suc k) (omega arith)) in
    let more = up_to-early slot x xs (early 0 (omega arith)) in
    omega (arith, more, rest)

-- some slots rise, from one on, and are before another
abbrev Rising : (from past : ℕ) → List ℕ → Type 0
Rising from past [] = Unit {0}
Rising from past (x ∷ xs) = (from ≤ x) × (x < past) × Rising (x + 1) past xs

lower : (from low past : ℕ) (xs : List ℕ) → low ≤ from → Rising from past xs → Rising low past xs
lower from low past [] le r = tt
lower from low past (x ∷ xs) le r = ((let at = r.0 in omega arith), r.1, r.2)

-- those of a stretch that pass a test do
rising : (p : ℕ → Bool) (from count past : ℕ) → from + count ≡ past
    → Rising from past (filter p (range_with_len from count))
rising p from zero past is = tt
rising p from (suc count) past is =
    let rest = rising p (from + 1) count past (omega arith) in
    elim (cases_Bool (p from)) [
      | inl keep ↦ rw keep ((omega arith), (omega arith), rest)
      | inr drop ↦ rw drop (lower (from + 1) from past (filter p (range_with_len (from + 1) count)) (omega arith) rest)
    ]

module _ (slot : ℕ) where
  none_before : (from past : ℕ) (xs : List ℕ) → slot < from → Rising from past xs → up_to slot xs ≡ 0
  unfolding up_to
  none_before from past [] h r = refl
  none_before from past (x ∷ xs) h r =
      let at = r.0 in up_to-late slot x xs (omega arith) ∙ none_before (x + 1) past xs (omega arith) r.2

  -- where those before one aren't after a slot, and it is, there are so many
  first_after : (from past : ℕ) (xs : List ℕ) (k : ℕ) → Rising from past xs → k < length xs
      → ((i : ℕ) → i < k → get_or xs i 0 ≤ slot) → slot < get_or xs k 0 → up_to slot xs ≡ k
  first_after from past [] k r below early late = absurd (omega arith)
  first_after from past (x ∷ xs) zero r below early late =
      up_to-late slot x xs late ∙ none_before (x + 1) past xs (omega arith) r.2
  first_after from past (x ∷ xs) (suc k) r below early late =
      up_to-early slot x xs (early 0 (omega arith))
      ∙ ap suc (first_after (x + 1) past xs k r.2 (omega arith) (λ i h. early (suc i) (omega arith)) late)

  -- the next is after the slot, or is the end
  ends_after : (from past : ℕ) (xs : List ℕ) → Rising from past xs → slot < past
      → slot < get_or xs (up_to slot xs) past
  ends_after from past [] r h = h
  ends_after from past (x ∷ xs) r h = elim (cases_lt slot x) [
    | inl after ↦ rw (up_to-late slot x xs after, none_before (x + 1) past xs (omega arith) r.2) after
    | inr before ↦ rw (up_to-early slot x xs before) (ends_after (x + 1) past xs r.2 h)
  ]

-- none of them is past the end
ends_within : (from past : ℕ) (xs : List ℕ) (k : ℕ) → Rising from past xs → get_or xs k past ≤ past
ends_within from past [] k r = omega arith
ends_within from past (x ∷ xs) zero r = let at = r.1 in omega arith
ends_within from past (x ∷ xs) (suc k) r = ends_within (x + 1) past xs k r.2

-- a callback starts within the slots
starts_within : (insns : List Insn) (start : ℕ) → is_some (insn_at insns start) ≡ true → start < slot_count insns
starts_within insns start there = elim (cases_lt start (slot_count insns)) [
  | inl inside ↦ inside
  | inr past ↦ absurd (let none_there = sym (ap is_some (insn_at-end insns start past)) ∙ there in cc)
]

module _ (program : Program) where
  -- where its callbacks start
  abbrev pub starts : List ℕ
  starts = callback_starts program.insns

  rise : Rising 0 (slot_count program.insns) starts
  rise = rising (is_callback_start program.insns (named_from 0 program.insns)) 0 (slot_count program.insns)
      (slot_count program.insns) (omega arith)

  -- no callback numbered below this one starts after a slot
  abbrev pub NoneAfter : (slot function : ℕ) → Type 0
  NoneAfter slot function = (k : ℕ) → k + 1 < function → get_or starts k 0 ≤ slot

  abbrev pub start_of : ℕ → ℕ
  start_of function = function_start program.insns function

  -- nor this one
  pub one_more : (slot function : ℕ) → 1 ≤ function → NoneAfter slot function → start_of function ≤ slot
      → NoneAfter slot (function + 1)
  one_more slot zero some early here k below = absurd (omega arith)
  one_more slot (suc callback) some early here k below = elim (cases_lt k callback) [
    | inl low ↦ early k (omega arith)
    | inr high ↦ let same : callback ≡ k = omega arith in subst (λ (n : ℕ). get_or starts n 0 ≤ slot) same here
  ]

  -- the first that starts after it is where its function ends
  pub next_start : (slot function : ℕ) → 1 ≤ function → function ≤ length starts → NoneAfter slot function
      → slot < start_of function → start_of function ≡ function_end program slot
  unfolding up_to
  next_start slot zero some within early late = absurd (omega arith)
  next_start slot (suc callback) some within early late =
      get_or_default starts callback 0 (slot_count program.insns) (omega arith)
      ∙ ap (λ (k : ℕ). get_or starts k (slot_count program.insns))
      (sym (first_after slot 0 (slot_count program.insns) starts callback rise (omega arith)
      (λ i h. early i (omega arith)) late))

  -- where none does, it ends with the slots
  pub last_end : (slot function : ℕ) → length starts < function → NoneAfter slot function
      → slot_count program.insns ≡ function_end program slot
  unfolding up_to
  last_end slot function all early =
      let count : up_to slot starts ≡ length starts = all_early slot starts (λ k h. early k (omega arith)) in
      sym (get_or_past starts (up_to slot starts) (slot_count program.insns) (omega arith))

  -- it ends within the slots
  pub end_within : (slot : ℕ) → function_end program slot ≤ slot_count program.insns
  unfolding up_to
  end_within slot = ends_within 0 (slot_count program.insns) starts (up_to slot starts) rise

  -- a callback ends after its first slot
  pub end_after : (slot : ℕ) → IsStart program slot → slot < function_end program slot
  unfolding up_to
  end_after slot start =
      ends_after slot 0 (slot_count program.insns) starts rise
      (starts_within program.insns slot (start-stands program.insns slot start))
