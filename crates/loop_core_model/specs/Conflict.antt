-- Which elements conflict. An iteration is the list of its actions at the element; iterations stand by rising index.
use Rattle.std.specs.Prelude.{◌≡◌, ◌≢◌, ℕ, ◌<◌, Bool, true, false, ◌&&◌, ◌||◌, ◌↔◌, List, [], ◌∷◌, map, length}
use Rattle.std.specs.{Prelude.{slice_index_or, is_none}, List.{list_any, filter, range_with_len}}
use Rattle.array_maps.specs.Accesses.{Action, Access, actions_at}
use Rattle.loop_core_model.specs.declared.loop_test.Test.{Test, TheVariants.{Lrpd, Flow}}
use Rattle.loop_core_model.specs.Actions.{writes, exposed, joined, only_operator}

-- two different iterations, of which one writes the element and the other has an exposed read of it
abbrev pub fails_lrpd : List (List Action) → Bool
fails_lrpd [] = false
fails_lrpd (first ∷ rest) = (writes first && list_any exposed rest) || ((exposed first && list_any writes rest)
    || fails_lrpd rest)

-- the same, where the one that writes has the lesser index
abbrev pub fails_flow : List (List Action) → Bool
fails_flow [] = false
fails_flow (first ∷ rest) = (writes first && list_any exposed rest) || fails_flow rest

-- what either test looks for
abbrev pub fails : Test → List (List Action) → Bool
fails Lrpd iterations = fails_lrpd iterations
fails Flow iterations = fails_flow iterations

-- by a test the element conflicts: it isn't reduction-only, and two iterations fail the test there
abbrev pub conflicts : Test → List (List Action) → Bool
conflicts test iterations = is_none (only_operator (joined iterations)) && fails test iterations

-- the iterations at one element, where each is the list of its accesses
abbrev pub at_element : ℕ → List (List Access) → List (List Action)
at_element element runs = map (actions_at element) runs

-- the conflicting elements of n, rising
abbrev pub conflicting : Test → List (List Access) → ℕ → List ℕ
conflicting test runs elements = filter (λ e. conflicts test (at_element e runs)) (range_with_len 0 elements)

-- how the indices of a writer and a reader stand that fail a test
abbrev pub Opposed : Test → (writer reader : ℕ) → Type 0
Opposed Lrpd writer reader = writer ≢ reader
Opposed Flow writer reader = writer < reader

-- a writer and a reader that fail a test
pub record FailingPair (test : Test) (iterations : List (List Action)) : Type 0 where
  pub writer : ℕ
  pub reader : ℕ
  pub writer_within : writer < length iterations
  pub reader_within : reader < length iterations
  pub opposed : Opposed test writer reader
  pub writing : writes (slice_index_or iterations writer []) ≡ true
  pub reading : exposed (slice_index_or iterations reader []) ≡ true

-- a test fails exactly where there is such a pair
abbrev pub FailsByPair : Type 0
FailsByPair = (test : Test) (iterations : List (List Action)) → (fails test iterations ≡ true) ↔ FailingPair test
    iterations

-- what conflicts by the flow test conflicts by the other too; so a loop that passes that one passes the flow test
pub record FlowPassesMore : Type 0 where
  pub elements : (runs : List (List Access)) (elements : ℕ) →
      conflicting Flow runs elements ≡ filter (λ e. conflicts Flow (at_element e runs)) (conflicting Lrpd runs elements)
  pub passes : (runs : List (List Access)) (elements : ℕ) → conflicting Lrpd runs elements ≡ []
      → conflicting Flow runs elements ≡ []
