use Rattle.std.{proofs.Common.{◌≡◌, ◌++◌, take}, specs.{List.{flat_map}, String.{string_bytes}}}
use Rattle.bpf_text.specs.MapsText.{element_spelling}
use Rattle.bpf_text.proofs.maps_print.print_values.Given as goal

abbrev pub invariant-loop-value : goal.invariant-loop-value
invariant-loop-value l = string_bytes l.out ≡ string_bytes l.fn.out ++ flat_map element_spelling
    (take l.value-index l.values)
