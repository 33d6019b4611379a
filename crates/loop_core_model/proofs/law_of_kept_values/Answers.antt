use Rattle.loop_core_model.proofs.KeptLaws.{commits_of_kept}
use Rattle.loop_core_model.proofs.law_of_kept_values.Goals as goal

pub returns : goal.returns
returns c = commits_of_kept
