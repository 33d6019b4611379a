use Rattle.std.proofs.Common.{bit_and, bit_or}
use Rattle.lane_planes.proofs.{Lanes.{combined}, Writing.{writes_lanes}}
use Rattle.lane_planes.proofs.conflict.lrpd_at.Goals as goal

pub returns : goal.returns
returns g c =
    let reader = rw c.as_slice.ensures.value at c.words_at-reader.ensures.lanes in
    let writer = rw c.as_slice-2.ensures.value at c.words_at-writer.ensures.lanes in
    let both = rw c.as_slice-3.ensures.value at c.words_at-both.ensures.lanes in
    let two = rw c.as_slice-4.ensures.value at c.words_at-two.ensures.lanes in
    writes_lanes _ c.args.at g.row.N _ _ c.requires.room
    (combined bit_or (combined bit_and reader writer) (combined bit_and both two))
