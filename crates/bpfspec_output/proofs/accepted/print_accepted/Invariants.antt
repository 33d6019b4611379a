use Rattle.std.{proofs.Common.{◌≡◌, ◌++◌, drop}, specs.String.{string_bytes}}
use Rattle.bpfspec_output.specs.ReportText.{accepted_text, function_line, numbered_lines}
use Rattle.bpfspec_output.proofs.accepted.print_accepted.Given as goal

abbrev pub invariant-loop-number : goal.invariant-loop-number
invariant-loop-number l =
    string_bytes l.out ++ numbered_lines function_line l.number-counter (drop l.number-counter l.functions) ≡ accepted_text l.functions
