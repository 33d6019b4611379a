use Rattle.std.proofs.Common.{◌≡◌, take, length}
use Rattle.bpf_insn_types.specs.Program.{slot_count}
use Rattle.bpf_verify_model.specs.Rules.{targets_in}
use Rattle.bpf_verify.{specs.Passing.{Passed}, proofs.StateLaws.{StatesBelow}}
use Rattle.bpf_verify.proofs.states.states_before.Given as goal

abbrev pub invariant-loop-insn : goal.invariant-loop-insn
invariant-loop-insn l = record {
  low : l.slot ≡ slot_count (take l.insn-index l.insns);
  size : length l.table.items ≡ l.count;
  room : length l.states.items ≡ l.count;
  passed : Passed (record { sizes = l.sizes; insns = l.insns }) l.slot (targets_in l.insns l.slot) l.table.items;
  below : StatesBelow (record { sizes = l.sizes; insns = l.insns }) l.slot l.states.items;
}
