use Rattle.std.proofs.Common.{◌≡◌, ◌++◌, drop}
use Rattle.bpf_text.specs.MapsText.{lists}
use Rattle.array_maps.specs.MapList.{base_of}
use Rattle.bpfspec_output.specs.ReportText.{values_of}
use Rattle.bpfspec_output.proofs.report.print_values.Given as goal

abbrev pub invariant-loop-map : goal.invariant-loop-map
invariant-loop-map l =
    lists l.values.items ++ values_of (drop l.map l.maps.sizes) (drop (base_of l.maps.sizes l.map) l.maps.words)
    ≡ values_of l.maps.sizes l.maps.words
