-- How large a program and its maps may be.
use Rattle.std.specs.{Prelude.{◌≡◌, ◌≤◌, ℕ, Bool, true, ◌&&◌, nat_le, List, length, sum}, List.{list_all}}
use Rattle.bpf_insn_types.specs.{Values.{AreInsns}, Program.{Program, slot_count}}

-- sizes within the limits: 1 to 16 maps, each of at least 1 element, and at most 65,536 elements over all
abbrev pub sizes_fit : List ℕ → Bool
sizes_fit sizes = nat_le 1 (length sizes)
    && (nat_le (length sizes) 16 && (list_all (nat_le 1) sizes && nat_le (sum sizes) 65536))

-- the same as a fact
abbrev pub AreSizes : List ℕ → Type 0
AreSizes sizes = sizes_fit sizes ≡ true

-- a program as a unit may have it: sizes within the limits, numbers of their types, and at most 4,096 slots
pub record IsUnit (program : Program) : Type 0 where
  pub sizes : AreSizes program.sizes
  pub insns : AreInsns program.insns
  pub slots : slot_count program.insns ≤ 4096
