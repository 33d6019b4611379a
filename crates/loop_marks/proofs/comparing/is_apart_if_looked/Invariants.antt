use Rattle.std.proofs.Common.{ℕ, ◌<◌}
use Rattle.lane_stamps.specs.Sites.{shown}
use Rattle.loop_marks.specs.SiteMarks.{IsApart}
use Rattle.loop_marks.proofs.comparing.is_apart_if_looked.Given as goal

abbrev pub invariant-loop-lane : goal.invariant-loop-lane
invariant-loop-lane l = (lane : ℕ) → lane < l.lane → IsApart (shown l.of_lanes) lane l.site l.other
