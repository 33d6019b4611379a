use Rattle.std.proofs.Common.{◌≡◌, slice_index}
use Rattle.array_maps.specs.Accesses.{Write, words_after_run}
use Rattle.array_maps.proofs.runs.store_each.Given as goal

abbrev pub invariant-loop-k : goal.invariant-loop-k
invariant-loop-k l = l.words ≡ words_after_run l.first (λ k. Write (slice_index l.values k)) l.k l.fn.words
