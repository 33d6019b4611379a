use Rattle.lane_stamps.specs.Marks.{FindNoGreater}
use Rattle.lane_stamps.proofs.marking.look_lanes.Given as goal

abbrev pub invariant-loop-lane : goal.invariant-loop-lane
invariant-loop-lane l = FindNoGreater l.stamps l.mask l.places l.lane l.top l.sites
