use Rattle.std.proofs.Common.{◌≡◌, length}
use Rattle.private_copy.specs.Shown.{copy_of}
use Rattle.bench_pages.specs.Resting.{Rests}
use Rattle.bench_pages.proofs.rounds.run.Given as goal

abbrev pub invariant-loop-index : goal.invariant-loop-index
invariant-loop-index l = record {
  rests : Rests l.copy l.planes l.index;
  elements : length (copy_of l.copy).start ≡ 65536;
}
