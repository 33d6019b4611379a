use Rattle.loop_core_model.proofs.{FailingPairs.{fails_by_pair}, FlowLaws.{flow_passes_more}}
use Rattle.loop_core_model.proofs.law_of_tests.Goals as goal

pub returns-clause-pairs : goal.returns-clause-pairs
returns-clause-pairs c = fails_by_pair

pub returns-clause-flow : goal.returns-clause-flow
returns-clause-flow c = flow_passes_more
