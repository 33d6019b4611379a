-- Comparisons take the low parts of their operands.
use Rattle.bpf_insn_types.proofs.WordLaws.{holds-low}
use Rattle.bpf_insn_types.proofs.compares.compare_words.Goals as goal

pub returns : goal.returns
returns c =
    holds-low c.args.width c.args.compare c.args.a c.args.b c.low_part.result c.low_part-2.result
    c.compare_numbers.result c.low_part.ensures c.low_part-2.ensures c.compare_numbers.ensures
