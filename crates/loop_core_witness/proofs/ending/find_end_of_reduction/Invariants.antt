use Rattle.std.proofs.Common.{◌≡◌, ◌-◌}
use Rattle.loop_core_witness.proofs.EndLaws.{KeptUpTo}
use Rattle.loop_core_witness.proofs.ending.find_end_of_reduction.Given as goal

abbrev pub invariant-loop-index : goal.invariant-loop-index
invariant-loop-index l = record {
  same : l.maps ≡ l.start;
  kept : KeptUpTo l.program l.call l.start.words l.element l.search.count l.op l.index;
}

abbrev pub decreases-loop-index : goal.decreases-loop-index
decreases-loop-index l = l.search.count - l.index
