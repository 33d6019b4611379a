use Rattle.std.proofs.Common.{◌≡◌, length}
use Rattle.array_maps.specs.MapList.{MapList}
use Rattle.loop_core_undo.specs.Undo.{log_elements}
use Rattle.loop_core_sequential.specs.Noting.{GoesWatched}
use Rattle.loop_core_sequential.proofs.watching.one_by_one_watched.Given as goal

abbrev pub invariant-loop-index : goal.invariant-loop-index
invariant-loop-index l = record {
  same : l.run ≡ l.fn.run;
  sizes : l.maps.sizes ≡ l.fn.maps.sizes;
  count : length l.maps.words ≡ log_elements l.log;
  goes : (start : MapList) → GoesWatched l.fn.run.program.now l.fn.run.call.now l.from start l.fn.maps l.fn.log
      → GoesWatched l.fn.run.program.now l.fn.run.call.now l.index start l.maps l.log;
}
