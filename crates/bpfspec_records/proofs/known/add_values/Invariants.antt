use Rattle.std.proofs.Common.{◌≡◌, ◌++◌}
use Rattle.bpf_verify_model.specs.States.{known_register}
use Rattle.bpfspec_records.specs.Units.{each_below, value_record}
use Rattle.bpfspec_records.proofs.known.add_values.Given as goal

abbrev pub invariant-loop-number : goal.invariant-loop-number
invariant-loop-number l = l.records.items ≡ l.initial.records.items
    ++ each_below (λ register. value_record l.slot l.to register (known_register l.state register)) l.number
