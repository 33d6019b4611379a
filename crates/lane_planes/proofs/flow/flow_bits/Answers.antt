use Rattle.std.proofs.Common.{◌+◌, get_or}
use Rattle.lane_planes.proofs.{BitLaws.{compared}, Lanes.{less_one}}
use Rattle.lane_planes.proofs.flow.flow_bits.Goals as goal

pub returns : goal.returns
returns g c =
    let n = g.row.N in
    compared n _ _ _ _ c.requires.lanes c.numbers_at-writers.ensures
    (less_one n (λ k. get_or c.args.last.now (c.args.at + k) 0) _ (λ k. (c.type_inv.last (c.args.at + k)).fits)
    c.numbers_at-readers.ensures)
