use Rattle.std.{proofs.Common.{◌≡◌, ◌≤◌, ◌+◌, ◌*◌, ℕ, List, length}, specs.Option.{option_or}}
use Rattle.bpf_text_operands.specs.LabelTable.{label_named}
use Rattle.bpf_text.specs.AssemblerText.{labels_from}
use Rattle.bpf_text.proofs.label.read_labels.Given as goal

abbrev pub invariant-loop-line : goal.invariant-loop-line
invariant-loop-line l = record {
  same : (name : List ℕ) → option_or (label_named l.labels name) (labels_from l.slot l.lines name) ≡ labels_from 0
      l.initial.lines name;
  room : l.slot + 2 * length l.lines ≤ 2097152;
}

abbrev pub decreases-loop-line : goal.decreases-loop-line
decreases-loop-line l = length l.lines
