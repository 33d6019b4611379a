use Rattle.std.proofs.Common.{◌≡◌, length}
use Rattle.bpf_text_lex.specs.Lines.{trim_end}
use Rattle.bpf_text_lex.proofs.lines.trim_end.Given as goal

abbrev pub invariant-loop-last : goal.invariant-loop-last
invariant-loop-last l = trim_end l.rest ≡ trim_end l.bytes

abbrev pub decreases-loop-last : goal.decreases-loop-last
decreases-loop-last l = length l.rest
