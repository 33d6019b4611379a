use Rattle.std.{proofs.Common.{◌≡◌, ◌++◌, drop}, specs.String.{string_bytes}}
use Rattle.bpf_text.specs.MapsText.{lists, map_spellings_from, maps_spelling}
use Rattle.bpf_text.proofs.maps_print.print_maps.Given as goal

abbrev pub invariant-loop-number : goal.invariant-loop-number
invariant-loop-number l = string_bytes l.out ++ map_spellings_from l.number (drop l.number (lists l.maps))
    ≡ maps_spelling (lists l.maps)
