use Rattle.std.proofs.Common.{◌≡◌}
use Rattle.bpf_verify_model.{specs.States.{joined_values}, proofs.MeetLaws.{met_to}}
use Rattle.bpf_verify_values.proofs.joining.join_registers.Given as goal

abbrev pub invariant-loop-number : goal.invariant-loop-number
invariant-loop-number l = l.registers ≡ met_to joined_values l.initial.registers l.others l.number
