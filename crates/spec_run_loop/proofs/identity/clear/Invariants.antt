use Rattle.std.proofs.Common.{◌≡◌, ℕ, ◌<◌, length, slice_index}
use Rattle.spec_run_loop.proofs.identity.clear.Given as goal

abbrev pub invariant-loop-e : goal.invariant-loop-e
invariant-loop-e l = record {
  sizes : l.maps.sizes ≡ l.fn.maps.sizes;
  count : length l.maps.words ≡ length l.fn.maps.words;
  each : (k : ℕ) → k < l.e → slice_index l.maps.words k ≡ l.identity;
}
