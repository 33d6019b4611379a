-- The remainder, computed in 64 bits, is the width's.
use Rattle.bpf_insn_types.proofs.SignedLaws.{remainder-low}
use Rattle.bpf_insn_types.proofs.arithmetic.take_signed_remainder.Goals as goal

pub returns : goal.returns
returns c =
    remainder-low c.args.width c.args.a c.args.b c.signed_value.result c.signed_value-2.result
    c.wrapping_rem-remainder.result c.cast_unsigned.result c.low_part.result c.requires.first c.requires.second
    c.if-b-eq0.false c.signed_value.ensures c.signed_value-2.ensures c.wrapping_rem-remainder.ensures
    c.cast_unsigned.ensures c.low_part.ensures
