use Rattle.loop_core_undo.proofs.WatchedLaws.{watched_all}
use Rattle.loop_core_undo.proofs.law_of_watching.Goals as goal

pub returns : goal.returns
returns c = watched_all
