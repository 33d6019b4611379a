-- The slots at which an iteration does what it does.
use Rattle.std.specs.Prelude.{◌≡◌, ℕ, true, false, List, [], ◌∷◌, Option, Some}
use Rattle.array_maps.specs.Accesses.{Access, actions_at}
use Rattle.bpf_insn_types.specs.Program.{Program}
use Rattle.bpf_step_model.specs.{State.{Machine, LoopCall, callback_entry}, Step.{Exits, step}, Steps.{GoesOn, Steps}}
use Rattle.loop_core_model.specs.Actions.{is_write, writes, is_plain_write}
use Rattle.loop_core_trace.specs.declared.slots.FirstReduce.{FirstReduce}
use Rattle.loop_core_trace.specs.Operators.{operator_of, reduces_alike, AreAlike}

-- on these words an iteration reaches the instruction at a slot, after these accesses
pub record ComesTo (program : Program) (call : LoopCall) (index : ℕ) (words : List ℕ) (slot : ℕ)
    (before : List Access) : Type 0 where
  pub count : ℕ
  pub machine : Machine
  pub between : List ℕ
  pub steps : Steps program count (callback_entry call index) words before machine between
  pub slot_is : machine.slot ≡ slot

-- and that instruction makes this access
pub record AccessesAt (program : Program) (call : LoopCall) (index : ℕ) (words : List ℕ) (slot : ℕ)
    (before : List Access) (access : Access) : Type 0 where
  pub comes : ComesTo program call index words slot before
  pub next : Machine
  pub after : List ℕ
  pub makes : GoesOn (step program comes.machine) comes.between (access ∷ []) next after

-- it is the iteration's first write of an element: none of the accesses before writes the element
pub record FirstWriteAt (program : Program) (call : LoopCall) (index : ℕ) (words : List ℕ) (element slot : ℕ) : Type 0
  where
    pub before : List Access
    pub access : Access
    pub made : AccessesAt program call index words slot before access
    pub here : access.element ≡ element
    pub writing : is_write access.action ≡ true
    pub first : writes (actions_at element before) ≡ false

-- it is the iteration's exposed read of an element: its first access of the element, and no plain write
pub record ExposedReadAt (program : Program) (call : LoopCall) (index : ℕ) (words : List ℕ) (element slot : ℕ) : Type 0
  where
    pub before : List Access
    pub access : Access
    pub made : AccessesAt program call index words slot before access
    pub here : access.element ≡ element
    pub looking : is_plain_write access.action ≡ false
    pub first : actions_at element before ≡ []

-- it is the iteration's first access of an element, and a reduce by this operator
pub record FirstReduceAt (program : Program) (call : LoopCall) (index : ℕ) (words : List ℕ) (element : ℕ)
    (first : FirstReduce) : Type 0 where
  pub before : List Access
  pub access : Access
  pub made : AccessesAt program call index words first.slot before access
  pub here : access.element ≡ element
  pub reducing : operator_of access.action ≡ Some first.op
  pub alone : actions_at element before ≡ []

-- it is the iteration's first access of an element that isn't a reduce by the operator of the first one
pub record OtherAccessAt (program : Program) (call : LoopCall) (index : ℕ) (words : List ℕ) (element : ℕ)
    (first : Option FirstReduce) (slot : ℕ) : Type 0 where
  pub before : List Access
  pub access : Access
  pub made : AccessesAt program call index words slot before access
  pub here : access.element ≡ element
  pub alike : AreAlike first (actions_at element before)
  pub other : reduces_alike first (operator_of access.action) ≡ false

-- there the iteration returns
pub record ReturnsAt (program : Program) (call : LoopCall) (index : ℕ) (words : List ℕ) (slot ret : ℕ) : Type 0 where
  pub before : List Access
  pub comes : ComesTo program call index words slot before
  pub returns : step program comes.machine ≡ Exits ret
