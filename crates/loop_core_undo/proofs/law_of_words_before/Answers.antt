use Rattle.loop_core_undo.proofs.UndoLaws.{kept_before}
use Rattle.loop_core_undo.proofs.law_of_words_before.Goals as goal

pub returns : goal.returns
returns c = kept_before
