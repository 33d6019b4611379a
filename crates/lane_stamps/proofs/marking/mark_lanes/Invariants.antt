use Rattle.lane_stamps.specs.{Stamps.{Rises}, Marks.{AreMarked, MarksOnly}}
use Rattle.lane_stamps.proofs.marking.mark_lanes.Given as goal

abbrev pub invariant-loop-lane : goal.invariant-loop-lane
invariant-loop-lane l = record {
  marked : AreMarked l.stamps l.mask l.places l.lane l.top l.sites;
  rises : Rises l.fn.stamps l.stamps;
  only : MarksOnly l.fn.stamps l.stamps l.mask l.places l.lane l.top l.sites;
}
