use Rattle.std.proofs.Common.{ℕ, ◌+◌, ◌-◌, ◌*◌, ◌<◌, min, length, slice_index}
use Rattle.lane_planes.specs.Words.{HasBits, stands_at}
use Rattle.lane_planes.proofs.flow.flow_into.Given as goal

abbrev pub invariant-loop-word : goal.invariant-loop-word
invariant-loop-word g l = (i : ℕ) → i < l.word → HasBits (min (length l.first - 64 * i) 64)
    (λ k. stands_at l.first l.last (64 * i + k)) (slice_index l.into i)
