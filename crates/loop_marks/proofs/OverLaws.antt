-- Values after lanes that change them one after another.
use Rattle.std.proofs.Common.{◌≡◌, ℕ, zero, suc, ◌+◌, ◌<◌, ◌||◌, min, max, Bool, true, false, refl, inl, inr, arith}
use Rattle.std.proofs.lemmas.Bool.{cases_eq}
use Rattle.loop_marks.specs.SiteMarks.{kept, over_lanes, set_by_lane}

-- no lane changes anything
pub over_none : {A : Type 0} → (change : A → ℕ → A) (does : ℕ → Bool) (lanes : ℕ) (old : A)
    → ((lane : ℕ) → lane < lanes → does lane ≡ false) → over_lanes change does lanes old ≡ old
over_none change does zero old none = refl
over_none change does (suc lane) old none =
    let before = over_none change does lane old (λ l less. none l (omega (arith, less))) in
    let now = none lane (omega arith) in
    grind (arith, before, now)

-- changes whose order doesn't matter, nor whether one is made twice
pub record IsMerge {A : Type 0} (change : A → ℕ → A) : Type 0 where
  pub swaps : (a : A) (l k : ℕ) → change (change a l) k ≡ change (change a k) l
  pub repeats : (a : A) (l : ℕ) → change (change a l) l ≡ change a l

pub kept_merges : (greatest : Bool) (index : ℕ) → IsMerge (kept greatest index)
kept_merges true index = record {
  swaps = λ a l k. (let e : max (max a (index + l + 1)) (index + k + 1) ≡ max (max a (index + k + 1)) (index + l + 1) =
      omega arith in e);
  repeats = λ a l. (let e : max (max a (index + l + 1)) (index + l + 1) ≡ max a (index + l + 1) = omega arith in e);
}
kept_merges false index = record {
  swaps = λ a l k. (let e : min (min a (index + l)) (index + k) ≡ min (min a (index + k)) (index + l) =
      omega arith in e);
  repeats = λ a l. (let e : min (min a (index + l)) (index + l) ≡ min a (index + l) = omega arith in e);
}

pub set_merges : IsMerge set_by_lane
set_merges = record { swaps = λ a l k. refl; repeats = λ a l. refl }

module _ {A : Type 0} (change : A → ℕ → A) (merge : IsMerge change) where
  -- a change before all may as well come after them
  over_pushed : (does : ℕ → Bool) (lanes : ℕ) (old : A) (l : ℕ)
      → over_lanes change does lanes (change old l) ≡ change (over_lanes change does lanes old) l
  over_pushed does zero old l = refl
  over_pushed does (suc lane) old l =
      let before = over_pushed does lane old l in
      let swap = merge.swaps (over_lanes change does lane old) l lane in
      grind (arith, before, swap)

  -- lanes that do one thing, and then all that do another, are lanes that do either
  pub over_both : (first second both : ℕ → Bool) (lanes : ℕ) (old : A)
      → ((lane : ℕ) → lane < lanes → both lane ≡ (first lane || second lane))
      → over_lanes change second lanes (over_lanes change first lanes old) ≡ over_lanes change both lanes old
  over_both first second both zero old is = refl
  over_both first second both (suc lane) old is =
      let so_far = over_both first second both lane old (λ l less. is l (omega (arith, less))) in
      let pushed = over_pushed second lane (over_lanes change first lane old) lane in
      let again = merge.repeats (over_lanes change second lane (over_lanes change first lane old)) lane in
      let either = is lane (omega arith) in
      grind (arith, so_far, pushed, again, either)

  -- the change of one lane, if it covers those of the others, is all that is left
  covered : (does : ℕ → Bool) (k lanes : ℕ) (old : A)
      → ((a : A) (l : ℕ) → l < lanes → does l ≡ true → change (change a l) k ≡ change a k)
      → change (over_lanes change does lanes old) k ≡ change old k
  covered does k zero old covers = refl
  covered does k (suc lane) old covers =
      let before = covered does k lane old (λ a l less. covers a l (omega (arith, less))) in
      let now = covers (over_lanes change does lane old) lane (omega arith) in
      grind (arith, before, now)

  pub over_covered : (does : ℕ → Bool) (k lanes : ℕ) (old : A) → does k ≡ true → k < lanes
      → ((a : A) (l : ℕ) → l < lanes → does l ≡ true → change (change a l) k ≡ change a k)
      → over_lanes change does lanes old ≡ change old k
  over_covered does k zero old is less covers = absurd (omega (arith, less))
  over_covered does k (suc lane) old is less covers =
      let below : (a : A) (l : ℕ) → l < lane → does l ≡ true → change (change a l) k ≡ change a k =
      λ a l less. covers a l (omega (arith, less)) in
      elim (cases_eq k lane) [
        | inl same ↦ let before = covered does k lane old below in grind (arith, before, same, is)
        | inr other ↦
            let before = over_covered does k lane old is (omega (arith, less, other)) below in
            let swap = merge.swaps old k lane in
            let now = covers old lane (omega arith) in
            grind (arith, before, swap, now)
      ]

-- lanes below a number that do the same
pub over_alike : {A : Type 0} → (change : A → ℕ → A) (does other : ℕ → Bool) (lanes : ℕ) (old : A)
    → ((lane : ℕ) → lane < lanes → does lane ≡ other lane)
    → over_lanes change does lanes old ≡ over_lanes change other lanes old
over_alike change does other zero old alike = refl
over_alike change does other (suc lane) old alike =
    let before = over_alike change does other lane old (λ l less. alike l (omega (arith, less))) in
    let now = alike lane (omega arith) in
    grind (arith, before, now)
