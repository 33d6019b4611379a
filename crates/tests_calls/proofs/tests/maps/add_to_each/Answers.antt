use Rattle.std.proofs.Common.{◌≡◌, ℕ, ◌+◌, ◌<◌, List, [], ◌∷◌, ◌++◌, map, take, length, get_or, sym, ◌∙◌, ap, subst}
use Rattle.std.proofs.{Common.{arith}, lemmas.List.{take_more, map-append}}
use Rattle.array_maps.specs.{Accesses.{Access, words_after, words_after_all}, Store.{Effects}}
use Rattle.array_maps.proofs.{ElementLaws.{length-words_after_all}, StoreLaws.{effects-more, words_after_all-more}}
use Rattle.tests_calls.specs.Added.{addition}
use Rattle.tests_calls.proofs.tests.maps.add_to_each.Goals as goal

pub update-requires-clause-within : goal.update-requires-clause-within
update-requires-clause-within g c =
    let inside : c.loop-e.e-index < length c.args.elements.now = omega arith in
    let same : length (g.S.Store.words c.loop-e.store) ≡ length (g.S.Store.words c.args.store.now) =
    ap length c.loop-e.invariant.words
    ∙ length-words_after_all (map (addition c.args.operand) (take c.loop-e.e-index c.args.elements.now))
    (g.S.Store.words c.args.store.now) in
    subst (λ (n : ℕ). get_or c.args.elements.now c.loop-e.e-index 0 < n) (sym same) (c.requires.within c.loop-e.e-index
    0 inside)

-- the accesses so far and the next
accesses-more : (operand : ℕ) (elements : List ℕ) (i : ℕ) → i < length elements →
    map (addition operand) (take (i + 1) elements) ≡ map (addition operand) (take i elements)
    ++ addition operand (get_or elements i 0) ∷ []
accesses-more operand elements i inside = ap (map (addition operand)) (take_more elements i 0 inside)
    ∙ map-append (addition operand) (take i elements) (get_or elements i 0 ∷ [])

pub loop-e-preserved : goal.loop-e-preserved
loop-e-preserved g c =
    let inside : c.loop-e.e-index < length c.args.elements.now = omega arith in
    let access : Access = addition c.args.operand (get_or c.args.elements.now c.loop-e.e-index 0) in
    let before : List Access = map (addition c.args.operand) (take c.loop-e.e-index c.args.elements.now) in
    let more = accesses-more c.args.operand c.args.elements.now c.loop-e.e-index inside in
    let shown = g.met.S.Store.shows c.loop-e.store c.update.new.self access c.update.ensures.done in
    let used = g.met.S.Store.uses_one c.loop-e.store c.update.new.self access c.update.ensures.done in
    record {
      done = subst (λ (accesses : List Access). Effects g.S.Store.effect c.args.store.now accesses c.update.new.self)
          (sym more)
          (effects-more g.S.Store.effect c.args.store.now c.loop-e.store c.update.new.self before access
          c.loop-e.invariant.done c.update.ensures.done);
      words = shown ∙ ap (words_after access) c.loop-e.invariant.words
          ∙ sym (words_after_all-more before access (g.S.Store.words c.args.store.now))
          ∙ ap (λ (accesses : List Access). words_after_all accesses (g.S.Store.words c.args.store.now)) (sym more);
      serves = omega (arith, used, c.loop-e.invariant.serves);
    }
