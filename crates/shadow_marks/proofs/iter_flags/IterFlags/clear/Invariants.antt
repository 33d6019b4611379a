use Rattle.std.proofs.Common.{◌≡◌}
use Rattle.shadow_marks.specs.Iteration.{element_count, touched_count}
use Rattle.shadow_marks.proofs.iter_flags.IterFlags.clear.Given as goal

abbrev pub invariant-loop-taken : goal.invariant-loop-taken
invariant-loop-taken l = element_count l.self ≡ element_count l.initial.self

abbrev pub decreases-loop-taken : goal.decreases-loop-taken
decreases-loop-taken l = touched_count l.self
