use Rattle.std.proofs.Common.{◌≤◌}
use Rattle.row_facts.specs.Narrower.{IsNarrower}
use Rattle.row_facts.proofs.narrowing.is_taken_from.Given as goal

abbrev pub invariant-loop-at : goal.invariant-loop-at
invariant-loop-at l = (l.at ≤ l.mask) × IsNarrower l.list l.mask l.at

abbrev pub decreases-loop-at : goal.decreases-loop-at
decreases-loop-at l = l.at
