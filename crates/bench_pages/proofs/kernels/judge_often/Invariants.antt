use Rattle.std.proofs.Common.{◌≡◌, length}
use Rattle.bench_pages.proofs.kernels.judge_often.Given as goal

abbrev pub invariant-loop : goal.invariant-loop
invariant-loop l = length l.plane.items ≡ 1024
