use Rattle.std.{proofs.Common.{◌≡◌, ℕ, ◌<◌, false, take, length, get_or}, specs.{Prelude.{nat_eq}, List.{list_any}}}
use Rattle.bpf_insn_types.specs.Program.{slot_count, named_from}
use Rattle.bpf_verify.proofs.layout.named.Given as goal

abbrev pub invariant-loop-insn : goal.invariant-loop-insn
invariant-loop-insn l = record {
  low : l.slot ≡ slot_count (take l.insn-index l.insns);
  size : length l.marks.items ≡ l.count;
  so_far : (k : ℕ) → k < l.count → get_or l.marks.items k false ≡ list_any (nat_eq k)
      (named_from 0 (take l.insn-index l.insns));
}
