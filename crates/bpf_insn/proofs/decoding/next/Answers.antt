use Rattle.std.proofs.Common.{arith, sym}
use Rattle.bpf_insn.proofs.Decoded.{first_insn-len}
use Rattle.bpf_insn.proofs.decoding.next.Goals as goal

pub returns-in-Ok-clause-within : goal.returns-in-Ok-clause-within
returns-in-Ok-clause-within c =
    rw c.slots.ensures (first_insn-len c.args.bytes.now c.in-Ok.insn (λ i. omega (arith, c.type_inv.bytes i))
    (sym c.in-Ok.ensures))
