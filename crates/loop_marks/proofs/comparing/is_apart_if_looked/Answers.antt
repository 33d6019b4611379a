use Rattle.std.proofs.Common.{ℕ, below_more}
use Rattle.lane_stamps.specs.Sites.{shown}
use Rattle.loop_marks.specs.SiteMarks.{IsApart}
use Rattle.loop_marks.proofs.comparing.is_apart_if_looked.Goals as goal

pub loop-lane-preserved : goal.loop-lane-preserved
loop-lane-preserved c =
    below_more (λ (lane : ℕ). IsApart (shown c.args.of_lanes) lane c.args.site.now c.args.other.now) c.loop-lane.lane
    c.loop-lane.invariant (c.is_apart.ensures c.if-not-is_apart.false)
