use Rattle.shadow_marks.proofs.ClearLaws.{ClearedSoFar}
use Rattle.shadow_marks.proofs.planes.Planes.clear.Given as goal

abbrev pub invariant-loop-page : goal.invariant-loop-page
invariant-loop-page l = ClearedSoFar l.initial.self l.self l.page
