use Rattle.std.proofs.Common.{◌<◌, ◌≤◌}
use Rattle.lane_stamps.specs.{Sites.{shown}, Marks.{LoadNoGreater, LoadsGreater}}
use Rattle.lane_stamps.proofs.marking.look_sites.Given as goal

abbrev pub invariant-loop-at : goal.invariant-loop-at
invariant-loop-at l = record {
  few : l.limit ≤ l.count;
  none : LoadNoGreater l.sites (shown l.lanes) l.stamps l.base l.count l.limit l.at;
  met : l.limit < l.count → LoadsGreater l.sites (shown l.lanes) l.stamps l.base l.count l.limit;
}
