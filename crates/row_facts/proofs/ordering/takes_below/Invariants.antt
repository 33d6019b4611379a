use Rattle.std.{proofs.Common.{ℕ, ◌<◌, take}, specs.List.{AllByRecursion}}
use Rattle.row_facts.proofs.ordering.takes_below.Given as goal

abbrev pub invariant-loop-j : goal.invariant-loop-j
invariant-loop-j l = AllByRecursion (λ (value : ℕ). value < l.k) (take l.j l.taken.values)
