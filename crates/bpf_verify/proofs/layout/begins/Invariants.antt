use Rattle.std.proofs.Common.{◌≡◌, ℕ, false, take, length, get_or, is_some}
use Rattle.bpf_insn_types.specs.Program.{slot_count, insn_at}
use Rattle.bpf_verify.proofs.layout.begins.Given as goal

abbrev pub invariant-loop-insn : goal.invariant-loop-insn
invariant-loop-insn l = record {
  low : l.slot ≡ slot_count (take l.insn-index l.insns);
  size : length l.marks.items ≡ l.count;
  so_far : (k : ℕ) → get_or l.marks.items k false ≡ is_some (insn_at (take l.insn-index l.insns) k);
}
