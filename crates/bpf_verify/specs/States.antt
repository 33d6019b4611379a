-- The abstract states before the instructions of a program.
use Rattle.std.specs.Prelude.{◌≡◌, ℕ, ◌≤◌, true, List, length, slice_index_or, Option, None, is_some}
use Rattle.bpf_insn_types.specs.Program.{Program, insn_at, slot_count}
use Rattle.bpf_verify_model.specs.{declared.state.State.{State}, Inflow.{state_before}}

-- a list has the abstract state before each slot up to the last where an instruction starts
pub record AreStatesBefore (program : Program) (last : ℕ) (states : List (Option State)) : Type 0 where
  pub size : length states ≡ slot_count program.insns
  pub at : (slot : ℕ) → slot ≤ last → is_some (insn_at program.insns slot) ≡ true
      → slice_index_or states slot None ≡ state_before program slot
