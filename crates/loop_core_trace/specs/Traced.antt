-- What a trace says of an iteration that was followed at one element.
use Rattle.std.specs.Prelude.{◌≡◌, ℕ, true, false, List, Option, Some, None}
use Rattle.array_maps.specs.Accesses.{Access, actions_at}
use Rattle.bpf_insn_types.specs.Program.{Program}
use Rattle.bpf_step_model.specs.{State.{LoopCall}, Run.{Ended}, Iteration.{Iterated, iteration}}
use Rattle.loop_core_model.specs.Actions.{writes, exposed}
use Rattle.loop_core_trace.specs.declared.{following.Trace.{Trace}, slots.{FirstReduce.{FirstReduce}, Slots.{Slots}}}
use Rattle.loop_core_trace.specs.Operators.{AreAlike}
use Rattle.loop_core_trace.specs.Places.{FirstWriteAt, ExposedReadAt, FirstReduceAt, OtherAccessAt, ReturnsAt}

-- an iteration with these accesses doesn't write the element, or writes it first at a slot
abbrev pub WriteIs : Program → LoopCall → (index : ℕ) → List ℕ → (element : ℕ) → List Access → Option ℕ → Type 0
WriteIs program call index words element accesses None = writes (actions_at element accesses) ≡ false
WriteIs program call index words element accesses (Some slot) =
    (writes (actions_at element accesses) ≡ true) × FirstWriteAt program call index words element slot

-- it has no exposed read of the element, or has it at a slot
abbrev pub ReadIs : Program → LoopCall → (index : ℕ) → List ℕ → (element : ℕ) → List Access → Option ℕ → Type 0
ReadIs program call index words element accesses None = exposed (actions_at element accesses) ≡ false
ReadIs program call index words element accesses (Some slot) =
    (exposed (actions_at element accesses) ≡ true) × ExposedReadAt program call index words element slot

-- the reduce that a trace has, if it has one, is the iteration's first access of the element
abbrev pub ReduceIs : Program → LoopCall → (index : ℕ) → List ℕ → (element : ℕ) → Option FirstReduce → Type 0
ReduceIs program call index words element None = Unit {0}
ReduceIs program call index words element (Some first) = FirstReduceAt program call index words element first

-- all its accesses of the element are reduces by the operator of the first one, or the first other one is at a slot
abbrev pub OtherIs : Program → LoopCall → (index : ℕ) → List ℕ → (element : ℕ) → List Access → Option FirstReduce
    → Option ℕ → Type 0
OtherIs program call index words element accesses first None = AreAlike first (actions_at element accesses)
OtherIs program call index words element accesses first (Some slot) =
    OtherAccessAt program call index words element first slot

-- all slots of a trace at the element are so
pub record AreSlots (program : Program) (call : LoopCall) (index : ℕ) (words : List ℕ) (element : ℕ)
    (accesses : List Access) (slots : Slots) : Type 0 where
  pub write : WriteIs program call index words element accesses slots.write
  pub read : ReadIs program call index words element accesses slots.read
  pub reduce : ReduceIs program call index words element slots.reduce
  pub other : OtherIs program call index words element accesses slots.reduce slots.other

-- on these words the iteration ended so: it returned this at this slot, and these are its slots at the element
pub record IsTraceOf (program : Program) (call : LoopCall) (index : ℕ) (words : List ℕ) (element : ℕ)
    (trace : Trace) : Type 0 where
  pub iterated : Iterated
  pub ended : iteration program 4096 call index words ≡ Ended iterated
  pub ret : trace.ret ≡ iterated.ret
  pub returns : ReturnsAt program call index words trace.exit trace.ret
  pub slots : AreSlots program call index words element iterated.accesses trace.slots
