-- The iteration that breaks a loop.
use Rattle.std.specs.Prelude.{◌≡◌, ℕ, ◌<◌, List, Option, Some, None}
use Rattle.bpf_insn_types.specs.Program.{Program}
use Rattle.bpf_step_model.specs.{State.{LoopCall}, Run.{Ended}, Iteration.{Iterated, iteration}}
use Rattle.loop_core_model.specs.LeastBreak.{least_break, counted}
use Rattle.loop_core_trace.specs.Places.{ReturnsAt}
use Rattle.loop_core_witness.specs.declared.place.Place.{Place}

-- the index of a place
abbrev pub index_of : Option Place → Option ℕ
index_of None = None
index_of (Some place) = Some place.index

-- the least break and the slot at which it returns 1, where the loop breaks
abbrev pub IsBreak : Program → LoopCall → List ℕ → Option Place → Type 0
IsBreak program call words None = least_break program 4096 call words ≡ None
IsBreak program call words (Some place) =
    (least_break program 4096 call words ≡ Some place.index)
    × ReturnsAt program call place.index words place.slot 1

-- so many iterations count, and each of them ends
pub record AreCounted (program : Program) (call : LoopCall) (words : List ℕ) (count : ℕ) : Type 0 where
  pub all : count ≡ counted program 4096 call words
  pub ends : (index : ℕ) → index < count → (it : Iterated) × (iteration program 4096 call index words ≡ Ended it)
