-- What conflicts by the flow test conflicts by the other too.
use Rattle.std.{proofs.Common.{◌≡◌, ℕ, Bool, false, List, [], ◌∷◌, refl, ◌∙◌, ap}, specs.Prelude.{is_none}}
use Rattle.std.{specs.List.{filter, range_with_len}, proofs.{Common.{inl, inr}, lemmas.Bool.{cases_Bool}}}
use Rattle.array_maps.specs.Accesses.{Action, Access}
use Rattle.loop_core_model.specs.{declared.loop_test.Test.TheVariants.{Lrpd, Flow}, Actions.{joined, only_operator}}
use Rattle.loop_core_model.specs.Conflict.{fails_lrpd, fails_flow, conflicts, at_element, conflicting, FlowPassesMore}
use Rattle.loop_core_model.proofs.OneElement.{and_false, fails_flow-fails_lrpd}

-- what both tests keep is what the narrower one keeps
filter_both : (wide narrow : ℕ → Bool) → ((e : ℕ) → wide e ≡ false → narrow e ≡ false) → (xs : List ℕ)
    → filter narrow xs ≡ filter narrow (filter wide xs)
filter_both wide narrow only [] = refl
filter_both wide narrow only (x ∷ xs) = elim (cases_Bool (wide x)) [
  | inl kept ↦ rw (kept, ← filter_both wide narrow only xs) refl
  | inr gone ↦ rw (gone, only x gone) (filter_both wide narrow only xs)
]

pub narrower : (iterations : List (List Action)) → conflicts Lrpd iterations ≡ false → conflicts Flow iterations ≡ false
narrower iterations h =
    and_false (is_none (only_operator (joined iterations))) (fails_lrpd iterations) (fails_flow iterations)
    (fails_flow-fails_lrpd iterations) h

flow_elements : (runs : List (List Access)) (elements : ℕ) →
    conflicting Flow runs elements ≡ filter (λ e. conflicts Flow (at_element e runs)) (conflicting Lrpd runs elements)
flow_elements runs elements =
    filter_both (λ e. conflicts Lrpd (at_element e runs)) (λ e. conflicts Flow (at_element e runs))
    (λ e. narrower (at_element e runs)) (range_with_len 0 elements)

pub flow_passes_more : FlowPassesMore
flow_passes_more = record {
  elements = flow_elements;
  passes = λ runs elements none. flow_elements runs elements ∙ ap (filter (λ e. conflicts Flow (at_element e runs)))
      none;
}
