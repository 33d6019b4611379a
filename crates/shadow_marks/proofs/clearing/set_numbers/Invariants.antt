use Rattle.shadow_marks.{specs.Runs.{SetsRun}}
use Rattle.shadow_marks.proofs.clearing.set_numbers.Given as goal

abbrev pub invariant-loop-e : goal.invariant-loop-e
invariant-loop-e l = SetsRun l.initial.numbers l.numbers l.first l.e l.number
