use Rattle.bpf_insn_types.specs.{declared.insn.Width.TheVariants.{W64}, Words.{alu}}
use Rattle.row_facts.proofs.arithmetic.computed.Goals as goal

pub returns-in-W64 : goal.returns-in-W64
returns-in-W64 c index x y first second = rw c.in-W64.is
    (c.within.ensures index (alu W64 c.args.op x y) (c.alu.ensures.contains x y first.in_range second.in_range)
    (c.line_of-line.ensures index x y first second))
