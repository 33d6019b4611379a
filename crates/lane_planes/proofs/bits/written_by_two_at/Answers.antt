use Rattle.std.proofs.Common.{bit_and, bit_or}
use Rattle.lane_planes.proofs.{Lanes.{combined}, Writing.{writes_lanes}}
use Rattle.lane_planes.proofs.bits.written_by_two_at.Goals as goal

pub returns : goal.returns
returns g c =
    writes_lanes _ c.args.at g.row.N _ _ c.requires.room
    (combined bit_or (combined bit_or c.words_at-mine.ensures.lanes c.words_at-theirs.ensures.lanes)
    (combined bit_and c.words_at-once.ensures.lanes c.words_at-again.ensures.lanes))
