-- Planes of blocks, merged one after another.
use Rattle.std.{proofs.Common.{◌≡◌, ℕ, ◌≤◌, List, ◌++◌, length, drop, subst}, specs.List.{All}}
use Rattle.std.proofs.{Math.ListN.{drop_of_length-le}, lemmas.List.{append-nil}}
use Rattle.loop_core_model.specs.{declared.loop_test.Test.{Test}, Marks.{Visit}}
use Rattle.shadow_marks.specs.{declared.planes.Planes.{Planes}, Standing.{StandFor, test_of}}
use Rattle.lane_planes.specs.Merged.{StandForSome}
use Rattle.loop_core_block.specs.Blocks.{BlockOf}
use Rattle.loop_core_gather.specs.Held.{chosen, visits_at, AreInOne}

-- planes stand for visits, which come before those of the blocks at these places
pub record StandBefore (each : BlockOf → ℕ → List Visit) (all left : List BlockOf) (planes : Planes) : Type 0 where
  pub before : ℕ → List Visit
  pub stand : StandFor planes before
  pub rest : (e : ℕ) → before e ++ visits_at each left e ≡ visits_at each all e

-- after the blocks at some places
pub record MergedSoFar (elements : ℕ) (test : Test) (blocks : List BlockOf) (places : List ℕ) (planes : Planes)
    (i : ℕ) : Type 0 where
  pub count : planes.elements ≡ elements
  pub test_is : test_of planes.tested ≡ test
  pub stand : StandForSome planes
  pub visits : (each : BlockOf → ℕ → List Visit) → All (λ b. StandFor b.planes (each b)) blocks
      → StandBefore each (chosen places blocks) (chosen (drop i places) blocks) planes

pub merged_all : (elements : ℕ) (test : Test) (blocks : List BlockOf) (places : List ℕ) (planes : Planes) (i : ℕ)
    → length places ≤ i → MergedSoFar elements test blocks places planes i → AreInOne elements test blocks places planes
merged_all elements test blocks places planes i past so_far = record {
  stand = so_far.stand;
  count = so_far.count;
  test_is = so_far.test_is;
  visits = λ each all.
      let held = so_far.visits each all in
      let same : (e : ℕ) → held.before e ≡ visits_at each (chosen places blocks) e =
      λ e. rw (drop_of_length-le places past, append-nil) at (held.rest e) in
      subst (StandFor planes) (λ j e. same e j) held.stand;
}
