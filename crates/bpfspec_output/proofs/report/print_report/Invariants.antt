use Rattle.std.{proofs.Common.{◌≡◌, ◌++◌, codes, drop}, specs.{Fmt.{decimal}, String.{string_bytes}}}
use Rattle.bpfspec_output.specs.ReportText.{loop_line, numbered_lines}
use Rattle.bpfspec_output.proofs.report.print_report.Given as goal

abbrev pub invariant-loop-number : goal.invariant-loop-number
invariant-loop-number l = string_bytes l.out ++ numbered_lines loop_line l.number (drop l.number l.loops)
    ≡ codes "return " ++ decimal l.fn.ret ++ codes "\n" ++ numbered_lines loop_line 0 l.loops
