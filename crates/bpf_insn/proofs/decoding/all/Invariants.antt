use Rattle.std.proofs.Common.{length}
use Rattle.bpf_insn.proofs.Decoded.{IsPartRead}
use Rattle.bpf_insn.proofs.decoding.all.Given as goal

abbrev pub invariant-loop-rest : goal.invariant-loop-rest
invariant-loop-rest l = IsPartRead l.bytes l.rest l.insns.items

abbrev pub decreases-loop-rest : goal.decreases-loop-rest
decreases-loop-rest l = length l.rest
