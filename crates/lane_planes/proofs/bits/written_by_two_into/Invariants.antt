use Rattle.std.proofs.Common.{◌-◌, slice_index, bit_or, bit_and}
use Rattle.lane_planes.proofs.Writing.{IsWritten}
use Rattle.lane_planes.proofs.bits.written_by_two_into.Given as goal

abbrev pub invariant-loop-at : goal.invariant-loop-at
invariant-loop-at g l = IsWritten (λ i. bit_or (bit_or (slice_index l.fn.into i) (slice_index l.from i))
    (bit_and (slice_index l.written i) (slice_index l.also_written i))) l.first l.at l.past l.fn.into l.into

abbrev pub decreases-loop-at : goal.decreases-loop-at
decreases-loop-at g l = l.past - l.at

abbrev pub invariant-loop-at-2 : goal.invariant-loop-at-2
invariant-loop-at-2 g l = IsWritten (λ i. bit_or (bit_or (slice_index l.fn.into i) (slice_index l.from i))
    (bit_and (slice_index l.written i) (slice_index l.also_written i))) l.first l.at l.past l.fn.into l.into

abbrev pub decreases-loop-at-2 : goal.decreases-loop-at-2
decreases-loop-at-2 g l = l.past - l.at
