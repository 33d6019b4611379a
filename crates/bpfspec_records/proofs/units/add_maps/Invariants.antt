use Rattle.std.proofs.Common.{◌≡◌, ◌++◌, drop}
use Rattle.bpfspec_records.specs.Units.{map_records}
use Rattle.bpfspec_records.proofs.units.add_maps.Given as goal

abbrev pub invariant-loop-map : goal.invariant-loop-map
invariant-loop-map l = l.records.items ++ map_records l.map (drop l.map l.sizes) ≡ l.initial.records.items
    ++ map_records 0 l.sizes
