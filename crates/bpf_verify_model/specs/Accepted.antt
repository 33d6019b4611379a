-- Which programs are accepted, and the first fault of the others.
use Rattle.std.specs.Prelude.{◌≡◌, ℕ, zero, suc, ◌<◌, ◌≤◌, ◌==◌, Bool, false, not, ◌||◌, nat_lt, if◌then◌else◌, Option}
use Rattle.std.specs.Prelude.{Some, None}
use Rattle.bpf_insn_types.specs.{Limits.{sizes_fit}, declared.insn.Insn.{Insn}, Program.{Program, insn_at, slot_count}}
use Rattle.bpf_verify_model.specs.{declared.rule.Rule.{Rule, TheVariants.{NoSlot, OverLimits}}, Rules.{fault_of}}
use Rattle.bpf_verify_model.specs.Inflow.{state_before}

-- a broken rule at a slot
pub record BrokenRule : Type 0 where
  pub rule : Rule
  pub slot : ℕ

-- the least rule that is broken at a slot where an instruction starts
abbrev pub fault_at_insn : Program → ℕ → Option Insn → Option Rule
fault_at_insn program slot None = None
fault_at_insn program slot (Some insn) = fault_of program slot insn (state_before program slot)

-- at a slot
abbrev pub fault_at : Program → ℕ → Option Rule
fault_at program slot = fault_at_insn program slot (insn_at program.insns slot)

-- a fault, unless there is an earlier one
abbrev pub unless_earlier : Option BrokenRule → ℕ → Option Rule → Option BrokenRule
unless_earlier (Some fault) slot rule = Some fault
unless_earlier None slot None = None
unless_earlier None slot (Some rule) = Some (record { rule = rule; slot = slot })

-- the first fault of n slots
unfoldable pub fault_within : Program → ℕ → Option BrokenRule
fault_within program zero = None
fault_within program (suc slot) = unless_earlier (fault_within program slot) slot (fault_at program slot)

-- V2: more than 4,096 slots, or sizes that break the limits
abbrev pub is_too_large : Program → Bool
is_too_large program = nat_lt 4096 (slot_count program.insns) || not (sizes_fit program.sizes)

-- a program takes n slots, within the limits, and its sizes are too
pub record WithinLimits (program : Program) (count : ℕ) : Type 0 where
  pub counted : slot_count program.insns ≡ count
  pub some : 0 < count
  pub few : count ≤ 4096
  pub small : is_too_large program ≡ false

-- the first fault: of the least slot, there of the least number. V1: there is no slot
unfoldable pub first_fault : Program → Option BrokenRule
first_fault program =
    if slot_count program.insns == 0 then Some (record { rule = NoSlot; slot = 0 })
    else if is_too_large program then Some (record { rule = OverLimits; slot = 0 })
    else fault_within program (slot_count program.insns)

-- a program is accepted where there is none
abbrev pub Accepted : Program → Type 0
Accepted program = first_fault program ≡ None
