use Rattle.std.proofs.Common.{◌≡◌, slice_index}
use Rattle.array_maps.specs.Accesses.{Reduce, words_after_run}
use Rattle.array_maps.proofs.runs.update_each.Given as goal

abbrev pub invariant-loop-k : goal.invariant-loop-k
invariant-loop-k l = l.words ≡ words_after_run l.first (λ k. Reduce l.op (slice_index l.operands k)) l.k l.fn.words
