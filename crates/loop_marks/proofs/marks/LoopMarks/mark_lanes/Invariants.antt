use Rattle.std.proofs.Common.{◌≤◌, length, drop}
use Rattle.lane_stamps.specs.Sites.{shown}
use Rattle.loop_marks.specs.SiteMarks.{SitesMarked, touches_in}
use Rattle.loop_marks.proofs.marks.LoopMarks.mark_lanes.Given as goal

abbrev pub invariant-loop-at : goal.invariant-loop-at
invariant-loop-at l = record {
  below : l.at ≤ length l.sites;
  marks : SitesMarked (touches_in (shown l.of_lanes) (drop l.at l.sites)) l.index l.lanes l.fn.self.planes
      l.self.planes;
}

abbrev pub decreases-loop-at : goal.decreases-loop-at
decreases-loop-at l = l.at
