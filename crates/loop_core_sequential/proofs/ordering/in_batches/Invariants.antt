use Rattle.std.proofs.Common.{◌≡◌, ◌-◌, ◌≤◌}
use Rattle.loop_core_sequential.specs.Rests.{RanOn}
use Rattle.loop_core_sequential.proofs.ordering.in_batches.Given as goal

abbrev pub invariant-loop-index : goal.invariant-loop-index
invariant-loop-index l = record {
  same : l.run ≡ l.fn.run;
  within : l.index ≤ l.to;
  went : RanOn l.fn.run.program.now l.fn.run.call.now l.from l.index l.fn.maps l.maps;
}

abbrev pub decreases-loop-index : goal.decreases-loop-index
decreases-loop-index l = l.to - l.index
