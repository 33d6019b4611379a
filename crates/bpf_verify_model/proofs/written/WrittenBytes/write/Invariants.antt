use Rattle.std.proofs.Common.{◌≡◌, ◌-◌}
use Rattle.bpf_verify_model.specs.{Written.{written_from}, Words.{marks_in_words, AreMarkWords}}
use Rattle.bpf_verify_model.proofs.written.WrittenBytes.write.Given as goal

abbrev pub invariant-loop-at : goal.invariant-loop-at
invariant-loop-at l =
    AreMarkWords l.self-inside.words
    × (marks_in_words l.self-inside.words ≡ written_from (marks_in_words l.initial.self-inside.words) l.position
    (l.at - l.position))
