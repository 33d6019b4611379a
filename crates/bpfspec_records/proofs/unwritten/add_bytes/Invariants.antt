use Rattle.std.proofs.Common.{◌≡◌, ◌+◌, ◌++◌}
use Rattle.bpfspec_records.specs.Units.{byte_record, each_below}
use Rattle.bpfspec_records.proofs.unwritten.add_bytes.Given as goal

abbrev pub invariant-loop-at : goal.invariant-loop-at
invariant-loop-at l = l.records.items ≡ l.initial.records.items
    ++ each_below (λ at. byte_record l.slot l.frame l.written (l.position + at)) l.at
