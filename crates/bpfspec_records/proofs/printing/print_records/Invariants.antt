use Rattle.std.{proofs.Common.{◌≡◌, take}, specs.{List.{flat_map}, String.{string_bytes}}}
use Rattle.bpfspec_records.specs.Printed.{printed}
use Rattle.bpfspec_records.proofs.printing.print_records.Given as goal

abbrev pub invariant-loop-fact : goal.invariant-loop-fact
invariant-loop-fact l = string_bytes l.out ≡ flat_map printed (take l.fact-index l.records)
