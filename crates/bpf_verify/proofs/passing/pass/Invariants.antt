use Rattle.std.proofs.Common.{◌≡◌, take, length}
use Rattle.bpf_insn_types.specs.Program.{slot_count}
use Rattle.bpf_verify.specs.Passing.{program_of, Passed, Translated}
use Rattle.bpf_verify.proofs.passing.pass.Given as goal

abbrev pub invariant-loop-insn : goal.invariant-loop-insn
invariant-loop-insn l = record {
  low : l.slot ≡ slot_count (take l.insn-index l.code.insns.now);
  size : length l.table.items ≡ l.count;
  passed : Passed (program_of l.code) l.slot l.targets.items l.table.items;
  room : length l.ops.items ≡ l.count;
  translated : Translated (program_of l.code) l.slot l.ops.items;
}
