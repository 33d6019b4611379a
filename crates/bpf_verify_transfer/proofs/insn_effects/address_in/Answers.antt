use Rattle.std.proofs.Common.{arith}
use Rattle.value_range.specs.Spans.{rounded_up}
use Rattle.bpf_verify_transfer.proofs.insn_effects.address_in.Goals as goal

pub norm-requires-clause-some : goal.norm-requires-clause-some
unfolding rounded_up
norm-requires-clause-some c = omega arith
