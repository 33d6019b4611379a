-- Scans that end, and the scan of adjacent intervals.
use Rattle.std.proofs.Common.{◌≡◌, ℕ, zero, suc, ◌+◌, true, false, List, [], ◌∷◌, ◌++◌, refl, sym, arith}
use Rattle.std.{specs.Prelude.{◌==◌}, proofs.{Common.{inl, inr}, lemmas.Bool.{cases_Bool}}}
use Rattle.bpf_step_model.specs.{Run.{BoundedResult, Ended, Stuck, Unfinished, mapped, followed}, Iteration.{Iterated}}
use Rattle.loop_core_model.specs.{LeastBreak.{in_front_of}, Scan.{up_to_break, scan}}
use Rattle.loop_core_model.specs.Block.{has_break, unless_break, ScansFollow}

-- An induction over scans that end: what holds of no iterations, of one that breaks alone, and of one that doesn't in
-- front of others of which it holds, holds of the iterations of every scan that ended
module _ (iterate : ℕ → BoundedResult Iterated) (P : (left index : ℕ) → List Iterated → Type 0)
    (none : (index : ℕ) → P zero index [])
    (last : (left index : ℕ) (it : Iterated) → iterate index ≡ Ended it → (it.ret == 1) ≡ true
    → P (suc left) index (it ∷ []))
    (more : (left index : ℕ) (it : Iterated) (its : List Iterated) → iterate index ≡ Ended it → (it.ret == 1) ≡ false
    → P left (index + 1) its → P (suc left) index (it ∷ its)) where
  abbrev IfEnded : (left index : ℕ) → BoundedResult (List Iterated) → Type 0
  IfEnded left index Stuck = Unit {0}
  IfEnded left index Unfinished = Unit {0}
  IfEnded left index (Ended its) = P left index its

  in_front : (left index : ℕ) (it : Iterated) (behind : BoundedResult (List Iterated)) → iterate index ≡ Ended it
      → (it.ret == 1) ≡ false → IfEnded left (index + 1) behind → IfEnded (suc left) index (in_front_of behind it)
  in_front left index it Stuck same on rest = tt
  in_front left index it Unfinished same on rest = tt
  in_front left index it (Ended its) same on rest = more left index it its same on rest

  one_more : (left index : ℕ) (behind : BoundedResult (List Iterated)) (e : BoundedResult Iterated)
      → iterate index ≡ e → IfEnded left (index + 1) behind
      → IfEnded (suc left) index (followed (up_to_break behind) e)
  one_more left index behind Stuck same rest = tt
  one_more left index behind Unfinished same rest = tt
  one_more left index behind (Ended it) same rest = elim (cases_Bool (it.ret == 1)) [
    | inl one ↦ rw one (last left index it same one)
    | inr on ↦ rw on (in_front left index it behind same on rest)
  ]

  all_scans : (left index : ℕ) → IfEnded left index (scan iterate left index)
  all_scans zero index = none index
  all_scans (suc left) index = one_more left index (scan iterate left (index + 1)) (iterate index) refl
      (all_scans left (index + 1))

  pub of_scan : (left index : ℕ) (its : List Iterated) → scan iterate left index ≡ Ended its → P left index its
  of_scan left index its ended = rw ended at (all_scans left index)

mapped_same : (e : BoundedResult (List Iterated)) → mapped (λ others. [] ++ others) e ≡ e
mapped_same Stuck = refl
mapped_same Unfinished = refl
mapped_same (Ended iterations) = refl

mapped_twice : (it : Iterated) (iterations : List Iterated) (e : BoundedResult (List Iterated)) →
    mapped (λ others. it ∷ others) (mapped (λ others. iterations ++ others) e) ≡ mapped (λ others. (it ∷ iterations)
    ++ others) e
mapped_twice it iterations Stuck = refl
mapped_twice it iterations Unfinished = refl
mapped_twice it iterations (Ended others) = refl

-- an iteration that doesn't break in front of a scan
more_followed : (it : Iterated) (near far : BoundedResult (List Iterated)) → (it.ret == 1) ≡ false →
    in_front_of (followed (unless_break far) near) it ≡ followed (unless_break far) (in_front_of near it)
more_followed it Stuck far on = refl
more_followed it Unfinished far on = refl
more_followed it (Ended iterations) far on = elim (cases_Bool (has_break iterations)) [
  | inl breaks ↦ rw (on, breaks) refl
  | inr ends ↦ rw (on, ends) (mapped_twice it iterations far)
]

one_followed : (near far : BoundedResult (List Iterated)) (e : BoundedResult Iterated) →
    followed (up_to_break (followed (unless_break far) near)) e ≡ followed (unless_break far)
    (followed (up_to_break near) e)
one_followed near far Stuck = refl
one_followed near far Unfinished = refl
one_followed near far (Ended it) = elim (cases_Bool (it.ret == 1)) [
  | inl breaks ↦ rw breaks (rw breaks refl)
  | inr on ↦ rw on (more_followed it near far on)
]

pub scans_follow : ScansFollow
scans_follow iterate zero more index =
    let none : zero + more ≡ more = omega arith in
    let here : index + zero ≡ index = omega arith in
    rw (none, here) (sym (mapped_same (scan iterate more index)))
scans_follow iterate (suc few) more index =
    let one_more : suc few + more ≡ suc (few + more) = omega arith in
    let there : index + suc few ≡ index + 1 + few = omega arith in
    rw (one_more, scans_follow iterate few more (index + 1), there)
    (one_followed (scan iterate few (index + 1)) (scan iterate more (index + 1 + few)) (iterate index))
