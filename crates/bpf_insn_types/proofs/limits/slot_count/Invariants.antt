use Rattle.std.proofs.Common.{◌≡◌, ◌≤◌, take}
use Rattle.bpf_insn_types.specs.Program.{slot_count}
use Rattle.bpf_insn_types.proofs.limits.slot_count.Given as goal

abbrev pub invariant-loop-insn : goal.invariant-loop-insn
invariant-loop-insn l = record {
  so_far : l.total ≡ slot_count (take l.insn-index l.insns);
  few : l.total ≤ 4096;
}
