use Rattle.bpf_insn_types.specs.declared.insn.Width.TheVariants.{W64}
use Rattle.value_range.proofs.SpanLaws.{top-contains}
use Rattle.row_facts.proofs.fact.unknown.Goals as goal

pub returns : goal.returns
returns c index x word = c.within.ensures index x (rw c.top.ensures (top-contains W64 x word)) (c.anything.ensures
    index x)
