use Rattle.std.{proofs.Common.{◌≡◌}, specs.Prelude.{bit_and}}
use Rattle.bpf_verify_model.proofs.MeetLaws.{met_to}
use Rattle.bpf_verify_model.proofs.written.WrittenBytes.join.Given as goal

abbrev pub invariant-loop-row : goal.invariant-loop-row
invariant-loop-row l = l.self-inside.words ≡ met_to bit_and l.initial.self-inside.words l.others-inside.words l.row
