use Rattle.shadow_marks.{specs.Iteration.{touched_count}, proofs.EndLaws.{AllCome}}
use Rattle.shadow_marks.proofs.planes.Planes.end_iteration.Given as goal

abbrev pub invariant-loop-e : goal.invariant-loop-e
invariant-loop-e l = AllCome l.initial.self l.self l.initial.flags l.flags l.index

abbrev pub decreases-loop-e : goal.decreases-loop-e
decreases-loop-e l = touched_count l.flags
