use Rattle.std.proofs.Common.{get_or}
use Rattle.loop_core_undo.specs.Runs.{RunIsSet}
use Rattle.loop_core_undo.proofs.runs.copy_words.Given as goal

abbrev pub invariant-loop-e : goal.invariant-loop-e
invariant-loop-e l = RunIsSet l.fn.words l.words 0 l.first l.e (λ e. get_or l.source e 0)
