-- Each row is computed.
use Rattle.bpf_insn_types.specs.Words.{alu, negated, moved_signed, in_order, holds}
use Rattle.bpf_insn_types.proofs.worked_words.Goals as goal

pub returns : goal.returns
unfolding alu negated moved_signed in_order holds
returns c = assumption
