-- Operators take the low parts of their operands.
use Rattle.bpf_insn_types.proofs.WordLaws.{alu-low}
use Rattle.bpf_insn_types.proofs.arithmetic.alu_word.Goals as goal

pub returns : goal.returns
returns c =
    alu-low c.args.width c.args.op c.args.a c.args.b c.low_part.result c.low_part-2.result c.compute.result
    c.low_part.ensures c.low_part-2.ensures c.compute.ensures
