-- Where the instructions of a unit stand, and in which functions.
use Rattle.std.specs.Prelude.{◌≡◌, ℕ, if◌then◌else◌, List, slice_index_or, Option, Some, None, is_some}
use Rattle.bpf_insn_types.specs.{declared.insn.Insn.{Insn}, Program.{insn_at, function_of, callback_starts}}
use Rattle.bpf_verify.specs.declared.layout.Layout.{Layout}

-- the function of the instruction that starts at a slot, if one does
abbrev pub function_starting_at : List Insn → ℕ → Option ℕ
function_starting_at insns slot = if is_some (insn_at insns slot) then Some (function_of insns slot) else None

-- a layout is that of these instructions
pub record IsLayout (insns : List Insn) (layout : Layout) : Type 0 where
  pub places : (slot : ℕ) → slice_index_or layout.places.items slot None ≡ function_starting_at insns slot
  pub starts : layout.starts.items ≡ callback_starts insns
