use Rattle.loop_core_model.proofs.FlagLaws.{flags_follow_kinds}
use Rattle.loop_core_model.proofs.law_of_flags.Goals as goal

pub returns : goal.returns
returns c = flags_follow_kinds
