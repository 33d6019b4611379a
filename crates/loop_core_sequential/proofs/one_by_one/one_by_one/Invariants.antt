use Rattle.std.{proofs.Common.{◌≡◌, length}, specs.List.{sum}}
use Rattle.loop_core_sequential.specs.Rests.{RanOn}
use Rattle.loop_core_sequential.proofs.one_by_one.one_by_one.Given as goal

abbrev pub invariant-loop-index : goal.invariant-loop-index
invariant-loop-index l = record {
  same : l.run ≡ l.fn.run;
  count : length l.maps.words ≡ sum l.fn.run.program.now.sizes;
  went : RanOn l.fn.run.program.now l.fn.run.call.now l.from l.index l.fn.maps l.maps;
}
