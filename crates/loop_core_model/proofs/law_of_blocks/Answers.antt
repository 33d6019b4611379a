use Rattle.loop_core_model.proofs.BlockLaws.{scans_follow}
use Rattle.loop_core_model.proofs.law_of_blocks.Goals as goal

pub returns : goal.returns
returns c = scans_follow
