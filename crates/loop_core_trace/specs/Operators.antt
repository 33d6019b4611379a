-- The operator by which an iteration reduces an element.
use Rattle.std.specs.Prelude.{◌≡◌, Bool, true, false, List, [], Option, Some, None}
use Rattle.array_maps.specs.{declared.access.Op.{Op}, Accesses.{Action, Read, Write, ReadWrite, Reduce}}
use Rattle.loop_core_model.specs.Actions.{is_same, only_operator}
use Rattle.loop_core_trace.specs.declared.slots.FirstReduce.{FirstReduce}

-- the operator of an action, where it is a reduce
abbrev pub operator_of : Action → Option Op
operator_of (Read saw) = None
operator_of (Write left) = None
operator_of (ReadWrite saw left) = None
operator_of (Reduce op operand) = Some op

-- a reduce, and by the operator of the first one, if there was one
abbrev pub reduces_alike : Option FirstReduce → Option Op → Bool
reduces_alike first None = false
reduces_alike None (Some op) = true
reduces_alike (Some first) (Some op) = is_same first.op op

-- actions that are reduces, all by the operator of the first one; where there is none, no actions
abbrev pub AreAlike : Option FirstReduce → List Action → Type 0
AreAlike None actions = actions ≡ []
AreAlike (Some first) actions = only_operator actions ≡ Some first.op
