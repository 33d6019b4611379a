use Rattle.std.{proofs.Common.{◌≡◌, ◌+◌, map}, specs.List.{range_with_len}}
use Rattle.bpfspec_serve.specs.Output.{function_numbered}
use Rattle.bpfspec_serve.proofs.answering.functions_of.Given as goal

abbrev pub invariant-loop-callback : goal.invariant-loop-callback
invariant-loop-callback l = l.functions.items ≡ map (function_numbered l.program.insns)
    (range_with_len 0 (l.callback + 1))
