use Rattle.std.proofs.Common.{arith}
use Rattle.array_maps.{specs.MapList.{lists, lengths}, proofs.{MapLists.{fits_in_sum}, SizeLaws.{too_many}}}
use Rattle.array_maps.proofs.maps.sizes_of.Goals as goal

pub returns-then-len-clause-limits : goal.returns-then-len-clause-limits
returns-then-len-clause-limits c = λ _.
    let within = fits_in_sum c.args.values.now c.loop-map.map-index c.map-item.result (grind arith) c.map-item.is in
    too_many (lengths (lists c.args.values.now)) (omega (arith, within, c.if-len.true, c.len.ensures))
