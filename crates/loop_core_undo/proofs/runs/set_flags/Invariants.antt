use Rattle.std.proofs.Common.{false}
use Rattle.loop_core_undo.specs.Runs.{RunIsSet}
use Rattle.loop_core_undo.proofs.runs.set_flags.Given as goal

abbrev pub invariant-loop-e : goal.invariant-loop-e
invariant-loop-e l = RunIsSet l.fn.flags l.flags false l.first l.e (λ e. l.value)
