-- An iteration more among visits.
use Rattle.std.proofs.{Common.{◌≡◌, ℕ, ◌+◌, List, [], ◌∷◌, ◌++◌, length, refl, sym, ◌∙◌, ap, arith}}
use Rattle.std.proofs.{lemmas.List.{length-map}}
use Rattle.array_maps.specs.Accesses.{Access, Action, actions_at}
use Rattle.loop_core_model.specs.{Conflict.{at_element}, Marks.{Visit, numbered}}
use Rattle.shadow_marks.specs.Standing.{one_more}
use Rattle.private_copy.{specs.Visits.{visits_of}, proofs.IterationLaws.{at_last}}

numbered_last : (first : ℕ) (xs : List (List Action)) (actions : List Action) (index : ℕ) → index ≡ first + length xs →
    numbered first (xs ++ actions ∷ []) ≡ numbered first xs ++ (record { index = index; actions = actions }) ∷ []
numbered_last first [] actions index is = let same : index ≡ first = omega (arith, is) in rw same refl
numbered_last first (x ∷ xs) actions index is =
    ap (λ rest. (let v : Visit = record { index = first; actions = x } in v) ∷ rest)
    (numbered_last (first + 1) xs actions index (omega (arith, is)))

pub visits_more : (first : ℕ) (runs : List (List Access)) (accesses : List Access) (index : ℕ)
    → index ≡ first + length runs →
    one_more (visits_of first runs) index (λ x. actions_at x accesses) ≡ visits_of first (runs ++ accesses ∷ [])
visits_more first runs accesses index is = λ i e.
    (sym (numbered_last first (at_element e runs) (actions_at e accesses) index
    (rw (length-map runs (actions_at e)) is)) ∙ ap (numbered first) (sym (at_last e runs accesses))) i
