use Rattle.std.proofs.Common.{◌≡◌, ◌≤◌, [], length}
use Rattle.bpf_text_operands.specs.LabelTable.{label_named}
use Rattle.bpf_insn_types.specs.Program.{slot_count}
use Rattle.bpf_text.specs.AssemblerText.{insns_behind}
use Rattle.bpf_text.proofs.program.read_insns.Given as goal

abbrev pub invariant-loop-line : goal.invariant-loop-line
invariant-loop-line l = record {
  so_far : insns_behind (label_named l.labels) l.insns.items l.lines ≡ insns_behind (label_named l.labels) []
      l.initial.lines;
  slot : l.slot ≡ slot_count l.insns.items;
  room : l.slot ≤ 4096;
}

abbrev pub decreases-loop-line : goal.decreases-loop-line
decreases-loop-line l = length l.lines
