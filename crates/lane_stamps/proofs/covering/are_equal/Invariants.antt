use Rattle.std.proofs.Common.{◌≡◌, ℕ, ◌<◌, true, false, slice_index}
use Rattle.lane_rows.specs.Rows.{is_in}
use Rattle.lane_stamps.proofs.covering.are_equal.Given as goal

abbrev pub invariant-loop-lane : goal.invariant-loop-lane
invariant-loop-lane l = l.differ ≡ false → (lane : ℕ) → lane < l.lane → is_in l.mask lane ≡ true
    → slice_index l.first lane ≡ slice_index l.second lane
