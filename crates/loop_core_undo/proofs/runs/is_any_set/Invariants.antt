use Rattle.std.proofs.Common.{◌≡◌, ℕ, ◌+◌, ◌<◌, ◌↔◌, false, get_or}
use Rattle.loop_core_undo.proofs.runs.is_any_set.Given as goal

abbrev pub invariant-loop-k : goal.invariant-loop-k
invariant-loop-k l = (l.any ≡ false) ↔ ((j : ℕ) → j < l.k → get_or l.flags (l.first + j) false ≡ false)
