use Rattle.std.proofs.Common.{◌≡◌, ℕ, ◌<◌}
use Rattle.bpf_verify_model.specs.Count.{function_start}
use Rattle.loop_core_block.proofs.runner.most_instructions.Given as goal

abbrev pub invariant-loop-function : goal.invariant-loop-function
invariant-loop-function l = (k : ℕ) → 0 < k → k < l.function → ¬ (function_start l.program.insns k ≡ l.slot)
