use Rattle.std.proofs.Common.{◌≡◌, ℕ, ◌<◌, ◌≤◌, true}
use Rattle.bpf_verify_model.specs.Words.{is_byte_marked}
use Rattle.bpf_verify_model.proofs.written.WrittenBytes.all_written.Given as goal

abbrev pub invariant-loop-at : goal.invariant-loop-at
invariant-loop-at l = (k : ℕ) → l.position ≤ k → k < l.at → is_byte_marked l.self-inside.words k ≡ true
