use Rattle.std.proofs.Common.{ℕ, ◌+◌, ◌-◌, ◌*◌, ◌<◌, min, length, slice_index}
use Rattle.lane_planes.specs.Words.{HasBits, stands_at}
use Rattle.lane_planes.proofs.touching.flow_where_touched.Given as goal

abbrev pub invariant-loop-page : goal.invariant-loop-page
invariant-loop-page g l =
    (i : ℕ) → i < l.page → HasBits (min (length l.flow.first.items - 64 * i) 64) (λ k. stands_at l.flow.first.items
    l.flow.last.items (64 * i + k)) (slice_index l.into i)
