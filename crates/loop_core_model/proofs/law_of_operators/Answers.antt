use Rattle.loop_core_model.proofs.OperatorLaws.{operators_associate}
use Rattle.loop_core_model.proofs.law_of_operators.Goals as goal

pub returns : goal.returns
returns c = operators_associate
