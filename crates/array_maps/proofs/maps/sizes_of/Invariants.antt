use Rattle.std.proofs.Common.{◌≡◌, take}
use Rattle.array_maps.specs.MapList.{lists, lengths}
use Rattle.array_maps.proofs.maps.sizes_of.Given as goal

abbrev pub invariant-loop-map : goal.invariant-loop-map
invariant-loop-map l = l.sizes.items ≡ lengths (lists (take l.map-index l.values))
