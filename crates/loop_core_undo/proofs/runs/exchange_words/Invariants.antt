use Rattle.std.proofs.Common.{◌≡◌, get_or}
use Rattle.loop_core_undo.specs.Runs.{RunIsSet}
use Rattle.loop_core_undo.proofs.runs.exchange_words.Given as goal

abbrev pub invariant-loop-e : goal.invariant-loop-e
invariant-loop-e l = record {
  words : RunIsSet l.fn.words l.words 0 l.first l.e (λ e. get_or l.fn.maps.words e 0);
  sizes : l.maps.sizes ≡ l.fn.maps.sizes;
  maps : RunIsSet l.fn.maps.words l.maps.words 0 l.first l.e (λ e. get_or l.fn.words e 0);
}
