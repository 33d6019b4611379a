use Rattle.std.proofs.Common.{◌≡◌, ℕ, ◌/◌, ◌<◌, false, slice_index}
use Rattle.loop_marks.proofs.comparing.are_of_same.Given as goal

abbrev pub invariant-loop-lane : goal.invariant-loop-lane
invariant-loop-lane l = l.differ ≡ false → (lane : ℕ) → lane < l.lane
    → slice_index l.first.lanes lane / 2 ≡ slice_index l.second.lanes lane / 2
