-- The access by which an element isn't reduction-only.
use Rattle.std.specs.Prelude.{◌≡◌, ℕ, ◌≤◌, ◌<◌, Bool, true, false, List, [], ◌∷◌, ◌++◌, length, take, is_some}
use Rattle.std.specs.{Prelude.{if◌then◌else◌, Option, Some, None}, List.{list_all}}
use Rattle.array_maps.specs.{declared.access.Op.{Op}, Accesses.{Action, Access, actions_at}}
use Rattle.bpf_insn_types.specs.Program.{Program}
use Rattle.bpf_step_model.specs.{State.{LoopCall}, Run.{Ended}, Iteration.{Iterated, iteration}}
use Rattle.loop_core_model.specs.{Actions.{is_same, reduces_by, joined, only_operator}, Conflict.{at_element}}
use Rattle.loop_core_model.specs.LeastBreak.{counted_runs}
use Rattle.loop_core_trace.specs.{declared.slots.FirstReduce.{FirstReduce}, Places.{AccessesAt}}
use Rattle.loop_core_witness.specs.declared.place.Place.{Place}

-- there are no actions, or each is a reduce, all by one operator
abbrev pub are_reduces : List Action → Bool
are_reduces [] = true
are_reduces (action ∷ actions) = is_some (only_operator (action ∷ actions))

-- the actions at an element in order, of all iterations before one, and then of its own accesses
abbrev pub actions_before : List (List Action) → (index element : ℕ) → List Access → List Action
actions_before iterations index element own = joined (take index iterations) ++ actions_at element own

-- up to an access of an element the actions there are reduces by one operator, and with it they aren't
pub record EndsReduction (program : Program) (call : LoopCall) (words : List ℕ) (element : ℕ)
    (iterations : List (List Action)) (place : Place) : Type 0 where
  pub within : place.index < length iterations
  pub before : List Access
  pub access : Access
  pub made : AccessesAt program call place.index words place.slot before access
  pub here : access.element ≡ element
  pub up_to : are_reduces (actions_before iterations place.index element before) ≡ true
  pub ended : are_reduces (actions_before iterations place.index element before ++ access.action ∷ []) ≡ false

-- such an access; or none, where all actions are reduces by one operator, or there are none
abbrev pub IsEnd : Program → LoopCall → List ℕ → (element : ℕ) → List (List Action) → Option Place → Type 0
IsEnd program call words element iterations None = are_reduces (joined iterations) ≡ true
IsEnd program call words element iterations (Some place) = EndsReduction program call words element iterations place

-- so it is of the counted iterations of a loop call on these words
pub record HasEnd (program : Program) (call : LoopCall) (words : List ℕ) (element : ℕ) (place : Option Place) : Type 0
  where
    pub runs : List (List Access)
    pub counted : counted_runs program 4096 call words ≡ Ended runs
    pub end : IsEnd program call words element (at_element element runs) place

-- the operator of the reduces at an element, where there were any, after an iteration that began with this one
abbrev pub operator_after : Option Op → Option FirstReduce → Option Op
operator_after (Some op) first = Some op
operator_after None None = None
operator_after None (Some first) = Some first.op

-- the slot at which an iteration ends a reduction by an operator: at its first access of the element, if that is a
-- reduce by another operator, or else at the first that isn't alike
abbrev pub end_slot : Option Op → Option FirstReduce → (other : Option ℕ) → Option ℕ
end_slot None first other = other
end_slot (Some op) None other = other
end_slot (Some op) (Some first) other = if is_same op first.op then other else Some first.slot

-- actions that don't end a reduction by an operator: each is a reduce by it; where there was no reduce yet, none at all
abbrev pub GoOn : Option Op → List Action → Type 0
GoOn None actions = actions ≡ []
GoOn (Some op) actions = list_all (reduces_by op) actions ≡ true

-- from an index up to another all iterations end, and each goes on with the reduction
abbrev pub AreQuiet : Program → LoopCall → List ℕ → (element : ℕ) → Option Op → (index past : ℕ) → Type 0
AreQuiet program call words element op index past =
    (k : ℕ) → index ≤ k → k < past →
    (it : Iterated) × (iteration program 4096 call k words ≡ Ended it) × GoOn op (actions_at element it.accesses)
