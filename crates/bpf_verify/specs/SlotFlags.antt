-- Marks of slots.
use Rattle.std.specs.Prelude.{◌≡◌, ℕ, ◌<◌, Bool, true, false, nat_eq, List, length, slice_index_or, slice_set, Option}
use Rattle.std.specs.{Prelude.{Some, None, is_some}, List.{list_any}}
use Rattle.bpf_insn_types.specs.{declared.insn.Insn.{Insn}, Program.{slot_count, insn_at, named_from}}

-- marks with one more, where the slot has a mark
abbrev pub slot_flagged : List Bool → Option ℕ → List Bool
slot_flagged marks None = marks
slot_flagged marks (Some slot) = slice_set marks slot true

-- the slots where instructions start are flagged
pub record StartFlags (insns : List Insn) (marks : List Bool) : Type 0 where
  pub count : length marks ≡ slot_count insns
  pub at : (slot : ℕ) → slice_index_or marks slot false ≡ is_some (insn_at insns slot)

-- the slots that code addresses name are flagged
pub record NamedFlags (insns : List Insn) (marks : List Bool) : Type 0 where
  pub count : length marks ≡ slot_count insns
  pub at : (slot : ℕ) → slot < slot_count insns → slice_index_or marks slot false ≡ list_any (nat_eq slot)
      (named_from 0 insns)
