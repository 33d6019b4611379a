use Rattle.std.proofs.Common.{◌≡◌, ◌≤◌, length, take}
use Rattle.bpf_insn_types.specs.Program.{slot_count}
use Rattle.bpf_verify.proofs.CountLaws.{CountsFrom}
use Rattle.bpf_verify.proofs.counting.longest.Given as goal

abbrev pub invariant-loop-left : goal.invariant-loop-left
invariant-loop-left l = record {
  within : l.left ≤ length l.insns;
  low : l.slot ≡ slot_count (take l.left l.insns);
  size : length l.longest.items ≡ l.count;
  counts : CountsFrom l.insns l.count l.slot l.longest.items;
}

abbrev pub decreases-loop-left : goal.decreases-loop-left
decreases-loop-left l = l.left
