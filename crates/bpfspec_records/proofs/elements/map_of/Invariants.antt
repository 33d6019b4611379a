use Rattle.std.proofs.Common.{◌≡◌, drop}
use Rattle.bpfspec_records.specs.Elements.{map_from, map_of}
use Rattle.bpfspec_records.proofs.elements.map_of.Given as goal

abbrev pub invariant-loop-map : goal.invariant-loop-map
invariant-loop-map l = map_from l.map (drop l.map l.sizes) l.rest ≡ map_of l.sizes l.element
