use Rattle.shadow_marks.proofs.ClearLaws.{bits_cleared}
use Rattle.shadow_marks.proofs.clearing.clear_bits.Goals as goal

pub returns : goal.returns
returns c = bits_cleared c.args.words.now c.args.page c.requires
