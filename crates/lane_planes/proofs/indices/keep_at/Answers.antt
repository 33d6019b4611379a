use Rattle.lane_planes.proofs.{Lanes.{lesser, greater}, Writing.{writes_lanes}}
use Rattle.lane_planes.proofs.indices.keep_at.Goals as goal

pub returns-in-Lesser : goal.returns-in-Lesser
returns-in-Lesser g c =
    rw c.in-Lesser.is (writes_lanes _ c.args.at g.row.N _ _ c.requires.room (lesser c.numbers_at-mine.ensures
    c.numbers_at-theirs.ensures))

pub returns-in-Greater : goal.returns-in-Greater
returns-in-Greater g c =
    rw c.in-Greater.is (writes_lanes _ c.args.at g.row.N _ _ c.requires.room (greater c.numbers_at-mine.ensures
    c.numbers_at-theirs.ensures))
