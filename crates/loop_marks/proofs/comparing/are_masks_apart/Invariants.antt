use Rattle.std.proofs.Common.{◌≡◌, ℕ, ◌<◌, true, false}
use Rattle.lane_rows.specs.Rows.{is_in}
use Rattle.loop_marks.proofs.comparing.are_masks_apart.Given as goal

abbrev pub invariant-loop-lane : goal.invariant-loop-lane
invariant-loop-lane l = l.meet ≡ false → (lane : ℕ) → lane < l.lane → is_in l.first lane ≡ true
    → is_in l.second lane ≡ true → ⊥
