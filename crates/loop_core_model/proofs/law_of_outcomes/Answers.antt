use Rattle.loop_core_model.proofs.OutcomeLaws.{outcome_by_test}
use Rattle.loop_core_model.proofs.law_of_outcomes.Goals as goal

pub returns : goal.returns
returns c = outcome_by_test
