use Rattle.shadow_marks.{specs.Kept.{bit_place}, proofs.BitLaws.{bit_tested}}
use Rattle.shadow_marks.proofs.element_flags.ElementFlags.has.Goals as goal

pub returns : goal.returns
returns c = bit_tested c.args.self.bits c.bit.result (bit_place c.args.flag) c.bit.ensures
