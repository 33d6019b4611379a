use Rattle.loop_core_model.proofs.SplitLaws.{splits_partition}
use Rattle.loop_core_model.proofs.law_of_splits.Goals as goal

pub returns : goal.returns
returns c = splits_partition
