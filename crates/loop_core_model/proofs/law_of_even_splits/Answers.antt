use Rattle.loop_core_model.proofs.EvenSplitLaws.{even_is_split}
use Rattle.loop_core_model.proofs.law_of_even_splits.Goals as goal

pub returns : goal.returns
returns c = even_is_split
