use Rattle.std.proofs.Common.{◌≡◌, ◌++◌}
use Rattle.bpfspec_records.specs.Units.{each_below, read_record}
use Rattle.bpfspec_records.proofs.known.add_reads.Given as goal

abbrev pub invariant-loop-number : goal.invariant-loop-number
invariant-loop-number l = l.records.items ≡ l.initial.records.items
    ++ each_below (read_record l.inspection l.slot l.insn) l.number
