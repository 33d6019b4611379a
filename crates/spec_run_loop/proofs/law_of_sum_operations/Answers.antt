use Rattle.spec_run_loop.proofs.SumRuns.{sums_reduce_alone}
use Rattle.spec_run_loop.proofs.law_of_sum_operations.Goals as goal

pub returns : goal.returns
returns c = sums_reduce_alone
