use Rattle.std.proofs.Common.{◌/◌, ◌%◌, get_or}
use Rattle.shadow_marks.proofs.BitLaws.{bit_tested}
use Rattle.shadow_marks.proofs.bits.is_set.Goals as goal

pub returns : goal.returns
returns c = bit_tested (get_or c.args.words.now (c.args.e / 64) 0) c.mask.result (c.args.e % 64) c.mask.ensures
