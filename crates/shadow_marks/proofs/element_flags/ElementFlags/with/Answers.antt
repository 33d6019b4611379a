use Rattle.shadow_marks.proofs.KeptLaws.{flag_ored}
use Rattle.shadow_marks.proofs.element_flags.ElementFlags.with.Goals as goal

pub returns : goal.returns
returns c = flag_ored c.args.self c.args.flag c.bit.result c.bit.ensures
