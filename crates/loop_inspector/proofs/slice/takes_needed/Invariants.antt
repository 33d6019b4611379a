use Rattle.std.{proofs.Common.{take}, specs.List.{AllByRecursion}}
use Rattle.loop_inspector.specs.Slices.{IsNeeded}
use Rattle.loop_inspector.proofs.slice.takes_needed.Given as goal

abbrev pub invariant-loop-j : goal.invariant-loop-j
invariant-loop-j l = AllByRecursion (IsNeeded l.needed) (take l.j l.taken.values)
