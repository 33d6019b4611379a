use Rattle.loop_core_model.proofs.GatherLaws.{blocks_gather}
use Rattle.loop_core_model.proofs.law_of_gathering.Goals as goal

pub returns : goal.returns
returns c = blocks_gather
