-- What reduces combine, action by action.
use Rattle.std.proofs.Common.{◌≡◌, ℕ, Bool, true, false, List, [], ◌∷◌, ◌++◌, Some, None, refl, sym, ◌∙◌, ap, inl, inr}
use Rattle.std.{specs.{Prelude.{if◌then◌else◌}, List.{list_all}}, proofs.lemmas.Bool.{cases_Bool}}
use Rattle.array_maps.specs.{declared.access.Op.{Op}, Accesses.{Action, Reduce, combined}}
use Rattle.loop_core_model.specs.{Actions.{is_same, reduces_by, joined, only_operator, operands}, Kept.{partial_by}}
use Rattle.private_copy.specs.declared.reduction.Reduction.{Reduction, TheVariants.{Untouched, By, Mixed}}
use Rattle.private_copy.specs.Reductions.{reduction_after, reduction_from, combination, PartialIsCombination}

-- what is mixed stays so
mixed_stays : (actions : List Action) → reduction_from Mixed actions ≡ Mixed
mixed_stays [] = refl
mixed_stays (Reduce op operand ∷ actions) = mixed_stays actions
mixed_stays (_ ∷ actions) = mixed_stays actions

-- after a first operand
from_first : (op : Op) (first : ℕ) (actions : List Action) →
    partial_by (if list_all (reduces_by op) actions then Some op else None) (first ∷ operands actions) ≡ combination
    (reduction_from (By op first) actions)
from_first op first [] = refl
from_first op first (Reduce other operand ∷ actions) = elim (cases_Bool (is_same op other)) [
  | inl same ↦ rw same (at_once (list_all (reduces_by op) actions) ∙ from_first op (combined op first operand) actions)
  | inr differs ↦ rw differs (ap combination (sym (mixed_stays actions)))
]
  where
    at_once : (b : Bool) → partial_by (if b then Some op else None) (first ∷ operand ∷ operands actions)
        ≡ partial_by (if b then Some op else None) (combined op first operand ∷ operands actions)
    at_once true = refl
    at_once false = refl
from_first op first (_ ∷ actions) = ap combination (sym (mixed_stays actions))

in_turn : (actions : List Action) → partial_by (only_operator actions) (operands actions) ≡ combination
    (reduction_from Untouched actions)
in_turn [] = refl
in_turn (Reduce op operand ∷ actions) = from_first op operand actions
in_turn (_ ∷ actions) = ap combination (sym (mixed_stays actions))

pub partial_is_combination : PartialIsCombination
partial_is_combination iterations = in_turn (joined iterations)

pub reduction_from-append : (before : Reduction) (xs ys : List Action) → reduction_from before (xs ++ ys)
    ≡ reduction_from (reduction_from before xs) ys
reduction_from-append before [] ys = refl
reduction_from-append before (x ∷ xs) ys = reduction_from-append (reduction_after before x) xs ys
