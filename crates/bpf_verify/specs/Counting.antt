-- The most instructions from each slot on.
use Rattle.std.specs.{Prelude.{◌≡◌, ℕ, ◌<◌, List, length, map, ◌∷◌, slice_index_or, None}, List.{All}}
use Rattle.bpf_insn_types.specs.{declared.insn.Insn.{Insn}, Limits.{AreSizes}, Values.{AreInsns}}
use Rattle.bpf_insn_types.specs.Program.{Program, slot_count, callback_starts}
use Rattle.bpf_verify_model.specs.{Accepted.{first_fault}, Count.{longest}}
use Rattle.bpf_step_ir.specs.{declared.ir_op.IrOp.{IrOp}, Translation.{AreOps}}
use Rattle.bpf_step_fuse.specs.{declared.fused_op.FusedOp.{FusedOp}, Parts.{AreFast}}
use Rattle.bpf_verify.specs.{declared.callback_rows.CallbackRows.{CallbackRows}, Rows.{AreRows}}

-- the number at an index of a list, and 0 past its end
abbrev pub most_at : List ℕ → ℕ → ℕ
most_at xs k = slice_index_or xs k 0

-- the most instructions from each slot on
pub record AreLongest (insns : List Insn) (counts : List ℕ) : Type 0 where
  pub at : (slot : ℕ) → slice_index_or counts slot 0 ≡ longest insns (slot_count insns) slot

-- what an accepted unit is kept with: its numbers fit, and it has where its callbacks start, the most instructions of
-- each function, an operation for each slot, those that run, and callbacks as lists
pub record IsVerifiedProgram (program : Program) (starts counts : List ℕ) (ops : List IrOp)
    (fast : List FusedOp) (rows : List CallbackRows) : Type 0 where
  pub accepted : first_fault program ≡ None
  pub insns_fit : AreInsns program.insns
  pub sizes_fit : AreSizes program.sizes
  pub starts_are : starts ≡ callback_starts program.insns
  pub counts_are : counts ≡ map (longest program.insns (slot_count program.insns)) (0 ∷ starts)
  pub few : length starts < 4097
  pub ops_are : AreOps program ops
  pub fast_are : AreFast ops fast
  pub rows_are : All (AreRows ops) rows
