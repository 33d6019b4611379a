-- What is remembered of the iteration under way, action by action.
use Rattle.std.proofs.Common.{◌≡◌, ℕ, List, [], ◌∷◌, ◌++◌, ap, ◌∙◌, append_assoc, inl, inr, refl}
use Rattle.std.proofs.{Math.Bool.{or-false, or-true}, lemmas.{Bool.{cases_Bool}, List.{append-nil, map-append}}}
use Rattle.std.proofs.lemmas.List.Folds.{list_any-append}
use Rattle.array_maps.specs.Accesses.{Access, Action, Read, left_by_all, actions_at}
use Rattle.loop_core_model.specs.{Actions.{writes, joined}, Committed.{last_value}, Conflict.{at_element}}
use Rattle.loop_core_model.proofs.{OneElement.{left_by_all-append}, KeptLaws.{joined-append, last_that-append}}
use Rattle.private_copy.specs.{Copies.{last_after}, Reductions.{reduction_after, reduction_of}}
use Rattle.private_copy.{specs.Touched.{with_page, page_of, pages_after}, proofs.ReductionLaws.{reduction_from-append}}

-- one action more of the last iteration
ruleset one_action_more = (last_that-append, list_any-append, left_by_all-append, or-false, or-true)

pub last_more : (xs : List (List Action)) (actions : List Action) (action : Action) (word : ℕ) →
    last_value (xs ++ (actions ++ action ∷ []) ∷ []) word ≡ last_after (last_value (xs ++ actions ∷ []) word) action
    (left_by_all actions word)
last_more xs actions (Read saw) word = elim (cases_Bool (writes actions)) [
  | inl wrote ↦ simp (one_action_more, wrote)
  | inr none ↦ simp (one_action_more, none)
]
last_more xs actions action word = simp one_action_more

joined_more : {A : Type 0} (xs : List (List A)) (ys : List A) (y : A) →
    joined (xs ++ (ys ++ y ∷ []) ∷ []) ≡ joined (xs ++ ys ∷ []) ++ y ∷ []
joined_more xs ys y = simp (joined-append, append-nil, append_assoc)

pub reduction_more : (xs : List (List Action)) (actions : List Action) (action : Action) →
    reduction_of (xs ++ (actions ++ action ∷ []) ∷ []) ≡ reduction_after (reduction_of (xs ++ actions ∷ [])) action
reduction_more xs actions action = simp (joined_more, reduction_from-append)

pages_after-last : (pages : List ℕ) (xs : List Access) (x : Access) → pages_after pages (xs ++ x ∷ []) ≡ with_page
    (pages_after pages xs) (page_of x.element)
pages_after-last pages [] x = refl
pages_after-last pages (first ∷ xs) x = pages_after-last (with_page pages (page_of first.element)) xs x

pub pages_more : (runs : List (List Access)) (accesses : List Access) (access : Access) →
    pages_after [] (joined (runs ++ (accesses ++ access ∷ []) ∷ []))
    ≡ with_page (pages_after [] (joined (runs ++ accesses ∷ []))) (page_of access.element)
pages_more runs accesses access =
    ap (pages_after []) (joined_more runs accesses access) ∙ pages_after-last [] (joined (runs ++ accesses ∷ [])) access

-- an iteration more that did nothing
pub joined_none : {A : Type 0} (xs : List (List A)) → joined (xs ++ [] ∷ []) ≡ joined xs
joined_none xs = simp (joined-append, append-nil)

-- iterations at one element
pub at_last : (e : ℕ) (runs : List (List Access)) (accesses : List Access) → at_element e (runs ++ accesses ∷ [])
    ≡ at_element e runs ++ actions_at e accesses ∷ []
at_last e runs accesses = map-append (actions_at e) runs (accesses ∷ [])
