use Rattle.bpf_insn.proofs.Encoded.{IsBegun}
use Rattle.bpf_insn.proofs.encoding.encode.Given as goal

abbrev pub invariant-loop-insn : goal.invariant-loop-insn
invariant-loop-insn l = IsBegun l.insns l.insn-index l.bytes.items
