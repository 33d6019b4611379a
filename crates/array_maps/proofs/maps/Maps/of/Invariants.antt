use Rattle.std.{proofs.Common.{◌≡◌, take}, specs.List.{concat}}
use Rattle.array_maps.specs.MapList.{AreWords, lists}
use Rattle.array_maps.proofs.maps.Maps.of.Given as goal

abbrev pub invariant-loop-map : goal.invariant-loop-map
invariant-loop-map l = record {
  so_far : l.words.items ≡ concat (lists (take l.map-index l.values));
  fit : AreWords l.words.items;
}
