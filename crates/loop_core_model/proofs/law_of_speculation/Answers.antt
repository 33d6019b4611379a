use Rattle.loop_core_model.proofs.LoopAgain.{loop_law}
use Rattle.loop_core_model.proofs.law_of_speculation.Goals as goal

pub returns : goal.returns
returns c = loop_law
