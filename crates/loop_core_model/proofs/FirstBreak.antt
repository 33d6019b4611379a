-- Where a scan breaks: at the first index of its interval whose iteration returns 1.
use Rattle.std.proofs.Common.{◌≡◌, ℕ, zero, suc, ◌+◌, ◌≤◌, ◌<◌, Bool, true, false, inl, inr, List, [], ◌∷◌}
use Rattle.std.proofs.{Common.{Option, Some, None, refl, ◌∙◌, ap, arith}, lemmas.Bool.{cases_Bool, cases_lt}}
use Rattle.std.specs.Prelude.{◌==◌, is_some}
use Rattle.bpf_step_model.specs.{Run.{BoundedResult, Ended}, Iteration.{Iterated}}
use Rattle.loop_core_model.specs.{LeastBreak.{is_break}, Scan.{scan}, Block.{has_break, break_from}}
use Rattle.loop_core_model.proofs.{Least.{LeastIs}, Steps.{first_break}, RunBlocks.{scan_break}}

-- no index of an interval passes
abbrev pub NoneIn : (ℕ → Bool) → (index past : ℕ) → Type 0
NoneIn test index past = (j : ℕ) → index ≤ j → j < past → test j ≡ false

-- the first index of an interval that passes
pub record IsFirst (test : ℕ → Bool) (index past i : ℕ) : Type 0 where
  pub from : index ≤ i
  pub within : i < past
  pub passes : test i ≡ true
  pub below : NoneIn test index i

abbrev pub FirstIs : (ℕ → Bool) → (index past : ℕ) → Option ℕ → Type 0
FirstIs test index past None = NoneIn test index past
FirstIs test index past (Some i) = IsFirst test index past i

-- an interval more in front, none of which passes
more_none : (test : ℕ → Bool) (index middle past : ℕ) → NoneIn test index middle → NoneIn test middle past
    → NoneIn test index past
more_none test index middle past none rest j low high = elim (cases_lt j middle) [
  | inl h ↦ none j low h
  | inr h ↦ rest j h high
]

pub widened : (test : ℕ → Bool) (index middle past : ℕ) (o : Option ℕ) → index ≤ middle → NoneIn test index middle
    → FirstIs test middle past o → FirstIs test index past o
widened test index middle past None order none rest = more_none test index middle past none rest
widened test index middle past (Some i) order none first = record {
  from = (let h = first.from in omega arith);
  within = first.within;
  passes = first.passes;
  below = more_none test index middle i none first.below;
}

-- the first that breaks is the first that passes
pub first_is : (test : ℕ → Bool) (left index past : ℕ) → index + left ≡ past
    → FirstIs test index past (first_break test left index)
first_is test zero index past end = λ j low high. absurd (omega arith)
first_is test (suc left) index past end = elim (cases_Bool (test index)) [
  | inl on ↦ rw on (record {
    from = omega arith;
    within = omega arith;
    passes = on;
    below = λ j low high. absurd (omega arith);
  })
  | inr off ↦ rw off (widened test index (index + 1) past (first_break test left (index + 1)) (omega arith)
      (λ j low high. (let same : j ≡ index = omega arith in ap test same ∙ off))
      (first_is test left (index + 1) past (omega arith)))
]

-- there is one first index
pub one_first : (test : ℕ → Bool) (n : ℕ) (a b : Option ℕ) → FirstIs test 0 n a → LeastIs test n b → a ≡ b
one_first test n None None none below = refl
one_first test n None (Some j) none least =
    let off : test j ≡ false = none j (omega arith) least.within in let on = least.passes in absurd (cc)
one_first test n (Some i) None first below =
    let off : test i ≡ false = below i first.within in let on = first.passes in absurd (cc)
one_first test n (Some i) (Some j) first least =
    let not_less : i < j → ⊥ = λ h. (let off : test i ≡ false = least.below i h in let on = first.passes in absurd (cc))
    in
    let not_more : j < i → ⊥ = λ h. (let off : test j ≡ false = first.below j (omega arith) h in
    let on = least.passes in absurd (cc)) in
    let same : i ≡ j = omega arith in
    ap Some same

-- a scan has a break where it broke
pub break_there : (index : ℕ) (ran : List Iterated) → has_break ran ≡ is_some (break_from index ran)
break_there index [] = refl
break_there index (it ∷ ran) = elim (cases_Bool (it.ret == 1)) [
  | inl here ↦ rw here refl
  | inr on ↦ rw on (break_there (index + 1) ran)
]

module _ (iterate : ℕ → BoundedResult Iterated) where
  abbrev pub breaking : ℕ → Bool
  breaking index = is_break (iterate index)

  -- a scan that ended broke at the first index of its interval that breaks
  pub scan_first : (left index : ℕ) (ran : List Iterated) → scan iterate left index ≡ Ended ran
      → FirstIs breaking index (index + left) (break_from index ran)
  scan_first left index ran h = rw (scan_break iterate left index ran h) (first_is breaking left index _ refl)
