-- What the reduces of one element combined, over iterations in order.
use Rattle.std.specs.Prelude.{◌≡◌, ℕ, List, [], ◌∷◌, Option, Some, None, if◌then◌else◌}
use Rattle.array_maps.specs.{declared.access.Op.{Op}, Accesses.{Action, Read, Write, ReadWrite, Reduce, combined}}
use Rattle.loop_core_model.specs.{Actions.{is_same, joined}, Kept.{partial}}
use Rattle.private_copy.specs.declared.reduction.Reduction.{Reduction, TheVariants.{Untouched, By, Mixed}}

-- after one reduce more: the first one's operand is where the combination begins, one by another operator mixes
abbrev pub reduced : Reduction → Op → ℕ → Reduction
reduced Untouched op operand = By op operand
reduced (By first so_far) op operand = if is_same first op then By first (combined first so_far operand) else Mixed
reduced Mixed op operand = Mixed

-- after one action more: each that is no reduce mixes
abbrev pub reduction_after : Reduction → Action → Reduction
reduction_after before (Read saw) = Mixed
reduction_after before (Write left) = Mixed
reduction_after before (ReadWrite saw left) = Mixed
reduction_after before (Reduce op operand) = reduced before op operand

-- after a list of actions
abbrev pub reduction_from : Reduction → List Action → Reduction
reduction_from before [] = before
reduction_from before (action ∷ actions) = reduction_from (reduction_after before action) actions

-- what the iterations at one element combined
abbrev pub reduction_of : List (List Action) → Reduction
reduction_of iterations = reduction_from Untouched (joined iterations)

-- the operator and what was combined, where there is one operator alone
abbrev pub combination : Reduction → Option (Op × ℕ)
combination Untouched = None
combination (By op so_far) = Some (op, so_far)
combination Mixed = None

-- it is the partial of the iterations
abbrev pub PartialIsCombination : Type 0
PartialIsCombination = (iterations : List (List Action)) → partial iterations ≡ combination (reduction_of iterations)
