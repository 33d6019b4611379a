-- What all workers come to together, and what all but one do.
use Rattle.std.proofs.Common.{◌≡◌, ℕ, zero, suc, ◌<◌, List, [], ◌∷◌, length, refl, sym, ◌∙◌, ap, subst, arith}
use Rattle.std.{specs.Prelude.{slice_index_or, slice_set}, proofs.lemmas.List.{length-set, get_or-set_same}}
use Rattle.loop_core_model.specs.Events.{Worker, Idle}

module _ (A : Type 0) (op : A → A → A) (unit : A) (f : Worker → A) where
  abbrev pub total : List Worker → A
  total [] = unit
  total (w ∷ ws) = op (f w) (total ws)

  abbrev pub others : List Worker → ℕ → A
  others [] i = unit
  others (w ∷ ws) zero = total ws
  others (w ∷ ws) (suc i) = op (f w) (others ws i)

  -- all are one and the others
  pub one_and_others : ((a b c : A) → op a (op b c) ≡ op b (op a c)) → (ws : List Worker) (i : ℕ) → i < length ws →
      total ws ≡ op (f (slice_index_or ws i Idle)) (others ws i)
  one_and_others swap [] i h = absurd (omega arith)
  one_and_others swap (w ∷ ws) zero h = refl
  one_and_others swap (w ∷ ws) (suc i) h = ap (op (f w)) (one_and_others swap ws i (omega arith))
      ∙ swap (f w) (f (slice_index_or ws i Idle)) (others ws i)

  others_stay : (ws : List Worker) (i : ℕ) (w : Worker) → others (slice_set ws i w) i ≡ others ws i
  others_stay [] i w = refl
  others_stay (x ∷ ws) zero w = refl
  others_stay (x ∷ ws) (suc i) w = ap (op (f x)) (others_stay ws i w)

  -- after a change of one
  pub changed : ((a b c : A) → op a (op b c) ≡ op b (op a c)) → (ws : List Worker) (i : ℕ) (w : Worker) → i < length ws
      → total (slice_set ws i w) ≡ op (f w) (others ws i)
  changed swap ws i w h =
      one_and_others swap (slice_set ws i w) i (subst (λ (n : ℕ). i < n) (sym (length-set ws i w)) h)
      ∙ (ap (λ (x : Worker). op (f x) (others (slice_set ws i w) i)) (get_or-set_same ws i w Idle h)
      ∙ ap (op (f w)) (others_stay ws i w))

  -- where none comes to anything
  pub none_of_all : ((a : A) → op unit a ≡ a) → (ws : List Worker)
      → ((i : ℕ) → i < length ws → f (slice_index_or ws i Idle) ≡ unit) → total ws ≡ unit
  none_of_all left [] each = refl
  none_of_all left (w ∷ ws) each =
      ap (λ (a : A). op a (total ws)) (each 0 (omega arith))
      ∙ (left (total ws) ∙ none_of_all left ws (λ i h. each (suc i) (omega arith)))
