use Rattle.std.proofs.Common.{length, ◌-◌, ◌<◌, ◌≤◌, slice_index}
use Rattle.lane_planes.specs.{Conflicts.{cleared_word, OperatorWordsFit}, Writes.{Writes}}
use Rattle.lane_planes.proofs.conflict.clear_reductions.Given as goal

abbrev pub invariant-loop-at : goal.invariant-loop-at
invariant-loop-at g l = record {
  within : l.at ≤ length l.into;
  words : Writes (λ i. cleared_word l.planes (slice_index l.fn.into i) i) 0 l.at l.fn.into l.into;
  fit : 0 < l.at → OperatorWordsFit l.planes (length l.into);
}

abbrev pub decreases-loop-at : goal.decreases-loop-at
decreases-loop-at g l = length l.initial.into - l.at

abbrev pub invariant-loop-at-2 : goal.invariant-loop-at-2
invariant-loop-at-2 g l = record {
  within : l.at ≤ length l.into;
  words : Writes (λ i. cleared_word l.planes (slice_index l.fn.into i) i) 0 l.at l.fn.into l.into;
  fit : 0 < l.at → OperatorWordsFit l.planes (length l.into);
}

abbrev pub decreases-loop-at-2 : goal.decreases-loop-at-2
decreases-loop-at-2 g l = length l.initial.into - l.at
