use Rattle.std.proofs.Common.{◌≡◌, ℕ}
use Rattle.spec_run_loop.{specs.Sums.{AreSumsOf}, proofs.RangeByRange.{Added}}
use Rattle.spec_run_loop.proofs.reduction_loop.ReductionLoop.add_up.Given as goal

abbrev pub invariant-loop-sum : goal.invariant-loop-sum
invariant-loop-sum l = record {
  sizes : l.maps.sizes ≡ l.fn.maps.sizes;
  added : (from to : ℕ) (are : AreSumsOf l.self from to l.sums) → Added l.self from to l.sums are l.fn.maps l.sum-index
      l.maps;
}
