-- What is shown of a loop that conflicts.
use Rattle.std.specs.Prelude.{◌≡◌, ℕ, Bool, true, false, List, Option, Some, None, option_map, slice_get}
use Rattle.bpf_insn_types.specs.Program.{Program}
use Rattle.bpf_step_model.specs.State.{LoopCall}
use Rattle.loop_core_witness.specs.{declared.{focus.Focus.{Focus}, grid.Grid.{Grid}}, Grids.{IsGrid}}
use Rattle.loop_core_witness.specs.declared.explained.Cause.{Cause}
use Rattle.loop_core_model.specs.declared.verdict.Verdict.{Verdict, TheVariants.{Conflict}}
use Rattle.loop_core_model.specs.LeastBreak.{counted}

-- whether a loop conflicts
abbrev pub is_conflict : Verdict → Bool
is_conflict (Conflict count least) = true
is_conflict _ = false

-- the element of a cause, its writer and its reader
abbrev pub pair_of : Cause → Focus
pair_of cause = record {
  element = cause.element;
  first = cause.witness.writer.index;
  second = cause.witness.reader.index;
}

-- those of the first cause, if there is one
abbrev pub first_pair : List Cause → Option Focus
first_pair causes = option_map pair_of (slice_get causes 0)

-- a grid that is wanted of a loop call on these words is that of its counted iterations around the pair of its first
-- cause; there is none where none is wanted
abbrev pub Shows : Program → LoopCall → List ℕ → List Cause → (wanted : Bool) → Option Grid → Type 0
Shows program call words causes true (Some grid) =
    IsGrid program call words (counted program 4096 call words) (first_pair causes) grid
Shows program call words causes true None = ⊥
Shows program call words causes false shown = shown ≡ None
