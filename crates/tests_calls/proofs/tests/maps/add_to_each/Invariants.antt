use Rattle.std.proofs.Common.{◌≡◌, ◌+◌, ◌≤◌, take, map}
use Rattle.array_maps.specs.{Accesses.{words_after_all}, Store.{Effects}}
use Rattle.tests_calls.specs.Added.{addition}
use Rattle.tests_calls.proofs.tests.maps.add_to_each.Given as goal

abbrev pub invariant-loop-e : goal.invariant-loop-e
invariant-loop-e g l = record {
  done : Effects g.S.Store.effect l.initial.store (map (addition l.operand) (take l.e-index l.elements)) l.store;
  words : g.S.Store.words l.store ≡ words_after_all (map (addition l.operand) (take l.e-index l.elements))
      (g.S.Store.words l.initial.store);
  serves : g.S.Store.serves l.initial.store ≤ g.S.Store.serves l.store + l.e-index;
}
