use Rattle.loop_core_model.proofs.KeptBlockLaws.{kept_blocks_tell}
use Rattle.loop_core_model.proofs.law_of_kept_blocks.Goals as goal

pub returns : goal.returns
returns c = kept_blocks_tell
