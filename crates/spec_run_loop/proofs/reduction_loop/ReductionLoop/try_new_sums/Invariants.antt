use Rattle.std.proofs.Common.{◌≡◌, length, All}
use Rattle.spec_run_loop.specs.Sums.{IsSumFor}
use Rattle.spec_run_loop.proofs.reduction_loop.ReductionLoop.try_new_sums.Given as goal

abbrev pub invariant-loop : goal.invariant-loop
invariant-loop l = record {
  count : length l.sums.items ≡ l.counter;
  fit : All (IsSumFor l.self) l.sums.items;
}
