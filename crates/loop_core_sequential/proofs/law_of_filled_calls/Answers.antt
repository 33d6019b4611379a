use Rattle.loop_core_sequential.proofs.SameOutcomes.{filled_calls_are_one_loop}
use Rattle.loop_core_sequential.proofs.law_of_filled_calls.Goals as goal

pub returns : goal.returns
returns c = filled_calls_are_one_loop c.law_of_accepted_programs.ensures c.law_of_accepted_runs.ensures.counts
