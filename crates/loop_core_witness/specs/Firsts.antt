-- The first iteration that accesses an element in some way.
use Rattle.std.specs.Prelude.{◌≡◌, ℕ, ◌≤◌, ◌<◌, Bool, List, Option, Some, None}
use Rattle.array_maps.specs.Accesses.{Action, Access}
use Rattle.bpf_insn_types.specs.Program.{Program}
use Rattle.bpf_step_model.specs.{State.{LoopCall}, Run.{Ended}, Iteration.{Iterated, iteration}}
use Rattle.loop_core_model.specs.Actions.{writes, exposed}
use Rattle.loop_core_trace.specs.{declared.slots.Slots.{Slots}, Traced.{WriteIs, ReadIs}}
use Rattle.loop_core_witness.specs.declared.kind.Kind.{Kind, TheVariants.{FirstWrite, ExposedRead}}
use Rattle.loop_core_witness.specs.declared.place.Place.{Place}

-- an iteration with these actions at an element does what is looked for
abbrev pub does : Kind → List Action → Bool
does FirstWrite actions = writes actions
does ExposedRead actions = exposed actions

-- the slot of it
abbrev pub slot_of : Kind → Slots → Option ℕ
slot_of FirstWrite slots = slots.write
slot_of ExposedRead slots = slots.read

-- an iteration with these accesses does it at this slot, or doesn't
abbrev pub IsAt : Kind → Program → LoopCall → (index : ℕ) → List ℕ → (element : ℕ) → List Access → Option ℕ → Type 0
IsAt FirstWrite program call index words element accesses slot = WriteIs program call index words element accesses slot
IsAt ExposedRead program call index words element accesses slot = ReadIs program call index words element accesses slot

-- on these words an iteration does it at this slot, or doesn't
pub record Does (kind : Kind) (program : Program) (call : LoopCall) (words : List ℕ) (element index : ℕ)
    (slot : Option ℕ) : Type 0 where
  pub iterated : Iterated
  pub ended : iteration program 4096 call index words ≡ Ended iterated
  pub seen : IsAt kind program call index words element iterated.accesses slot

-- none from an index up to another does
abbrev pub NoneDoes : Kind → Program → LoopCall → List ℕ → (element from past : ℕ) → Type 0
NoneDoes kind program call words element from past =
    (index : ℕ) → from ≤ index → index < past → Does kind program call words element index None

-- this is the first of them that does, and its slot
pub record FirstAt (kind : Kind) (program : Program) (call : LoopCall) (words : List ℕ) (element from past : ℕ)
    (place : Place) : Type 0 where
  pub after : from ≤ place.index
  pub within : place.index < past
  pub here : Does kind program call words element place.index (Some place.slot)
  pub before : NoneDoes kind program call words element from place.index

-- the first of them that does, where one does
abbrev pub FirstIs : Kind → Program → LoopCall → List ℕ → (element from past : ℕ) → Option Place → Type 0
FirstIs kind program call words element from past None = NoneDoes kind program call words element from past
FirstIs kind program call words element from past (Some place) = FirstAt kind program call words element from past place
