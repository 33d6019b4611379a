use Rattle.std.proofs.Common.{◌+◌, ◌-◌, ◌≤◌}
use Rattle.lane_planes.specs.Words.{HasBits, stands_at}
use Rattle.lane_planes.proofs.flow.flow_word.Given as goal

abbrev pub invariant-loop-at : goal.invariant-loop-at
invariant-loop-at g l = record {
  within : l.at ≤ l.many;
  bits : HasBits l.at (λ k. stands_at l.first l.last (l.from + k)) l.word;
}

abbrev pub decreases-loop-at : goal.decreases-loop-at
decreases-loop-at g l = l.many - l.at

abbrev pub invariant-loop-at-2 : goal.invariant-loop-at-2
invariant-loop-at-2 g l = record {
  within : l.at ≤ l.many;
  bits : HasBits l.at (λ k. stands_at l.first l.last (l.from + k)) l.word;
}

abbrev pub decreases-loop-at-2 : goal.decreases-loop-at-2
decreases-loop-at-2 g l = l.many - l.at
