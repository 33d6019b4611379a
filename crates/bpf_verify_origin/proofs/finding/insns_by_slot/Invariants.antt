use Rattle.std.proofs.Common.{◌≡◌, ◌++◌, drop}
use Rattle.bpf_verify_origin.proofs.FindLaws.{by_slot}
use Rattle.bpf_verify_origin.proofs.finding.insns_by_slot.Given as goal

abbrev pub invariant-loop-insn : goal.invariant-loop-insn
invariant-loop-insn l = l.table.items ++ by_slot (drop l.insn-index l.insns) ≡ by_slot l.insns
