use Rattle.std.{proofs.Common.{◌≡◌, ◌++◌, map}, specs.List.{range_with_len}}
use Rattle.bpfspec_serve.specs.Facts.{function_record}
use Rattle.bpfspec_serve.proofs.facts.add_functions.Given as goal

abbrev pub invariant-loop-number : goal.invariant-loop-number
invariant-loop-number l = l.records.items ≡ l.initial.records.items ++ map (function_record l.program.insns)
    (range_with_len 0 l.number)
