use Rattle.std.proofs.Common.{◌≡◌, ◌+◌, ◌≤◌, length}
use Rattle.bpf_text_lex.specs.Lines.{lines_of, contents_from}
use Rattle.bpf_text_lex.proofs.lines.next_line.Given as goal

abbrev pub invariant-loop-rest : goal.invariant-loop-rest
invariant-loop-rest l = record {
  same : contents_from l.fn.number (lines_of l.text) ≡ contents_from l.number (lines_of l.rest);
  shorter : l.number + length l.rest ≤ l.fn.number + length l.text;
}

abbrev pub decreases-loop-rest : goal.decreases-loop-rest
decreases-loop-rest l = length l.rest
