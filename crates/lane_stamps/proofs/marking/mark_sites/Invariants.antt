use Rattle.lane_stamps.specs.{Sites.{shown}, Stamps.{AreStale}, Marks.{AreMarks, LeaveMarks}}
use Rattle.lane_stamps.proofs.marking.mark_sites.Given as goal

abbrev pub invariant-loop-at : goal.invariant-loop-at
invariant-loop-at l = record {
  marked : LeaveMarks l.sites (shown l.lanes) l.stamps l.base l.count l.at;
  known : AreStale l.fn.stamps l.base → AreMarks l.sites (shown l.lanes) l.stamps l.base l.count;
}
