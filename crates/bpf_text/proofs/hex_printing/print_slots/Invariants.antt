use Rattle.std.{proofs.Common.{◌≡◌, ◌++◌, length}, specs.String.{string_bytes}}
use Rattle.bpf_text.specs.PrintedUnits.{slot_lines}
use Rattle.bpf_text.proofs.hex_printing.print_slots.Given as goal

abbrev pub invariant-loop-rest : goal.invariant-loop-rest
invariant-loop-rest l = string_bytes l.out ++ slot_lines l.rest ≡ string_bytes l.fn.out ++ slot_lines l.bytes

abbrev pub decreases-loop-rest : goal.decreases-loop-rest
decreases-loop-rest l = length l.rest
