use Rattle.std.proofs.Common.{◌-◌, ◌*◌, slice_index}
use Rattle.lane_planes.{specs.Kept.{kept_of}, proofs.Writing.{IsWritten}}
use Rattle.lane_planes.proofs.indices.keep_into.Given as goal

abbrev pub invariant-loop-at : goal.invariant-loop-at
invariant-loop-at g l = IsWritten (λ i. kept_of l.kept (slice_index l.fn.into i) (slice_index l.from i)) (64 * l.first)
    l.at l.end l.fn.into l.into

abbrev pub decreases-loop-at : goal.decreases-loop-at
decreases-loop-at g l = l.end - l.at

abbrev pub invariant-loop-at-2 : goal.invariant-loop-at-2
invariant-loop-at-2 g l = IsWritten (λ i. kept_of l.kept (slice_index l.fn.into i) (slice_index l.from i))
    (64 * l.first) l.at l.end l.fn.into l.into

abbrev pub decreases-loop-at-2 : goal.decreases-loop-at-2
decreases-loop-at-2 g l = l.end - l.at
