use Rattle.std.proofs.Common.{bit_or}
use Rattle.lane_planes.proofs.{Lanes.{combined}, Writing.{writes_lanes}}
use Rattle.lane_planes.proofs.bits.or_at.Goals as goal

pub returns : goal.returns
returns g c =
    writes_lanes _ c.args.at g.row.N _ _ c.requires.room
    (combined bit_or c.words_at-mine.ensures.lanes c.words_at-theirs.ensures.lanes)
