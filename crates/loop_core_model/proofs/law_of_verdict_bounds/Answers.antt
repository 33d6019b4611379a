use Rattle.loop_core_model.proofs.VerdictLaws.{verdicts_agree}
use Rattle.loop_core_model.proofs.law_of_verdict_bounds.Goals as goal

pub returns : goal.returns
returns c = verdicts_agree
