-- What an inspection of a program has.
use Rattle.std.specs.Prelude.{◌≡◌, ℕ, ◌<◌, nat_le, Bool, true, List, length, slice_index_or, Option, Some, None, is_some}
use Rattle.std.specs.Option.{option_map}
use Rattle.bpf_insn_types.specs.{declared.insn.Insn.{Insn}, Values.{AreInsns as FieldsFit}}
use Rattle.bpf_insn_types.specs.Program.{Program, insn_at, slot_count}
use Rattle.bpf_verify_model.specs.{declared.state.State.{State}, Inflow.{state_before}}
use Rattle.bpf_verify_model.specs.Accepted.{BrokenRule, WithinLimits, first_fault, fault_within}
use Rattle.bpf_verify.specs.States.{AreStatesBefore}
use Rattle.bpf_verify_origin.specs.declared.{inflow.Inflow.{Inflow, TheVariants.{Nowhere}}, fault.Fault.{Fault}}
use Rattle.bpf_verify_origin.specs.Edges.{inflow, passed_slots}

-- a fault as a broken rule at a slot
abbrev pub broken_rule : Fault → BrokenRule
broken_rule fault = record { rule = fault.rule; slot = fault.slot }

-- the verifier's pass reaches a slot: the program is within the limits, an instruction starts there, and no slot
-- before it breaks a rule
pub record IsPassedTo (program : Program) (slot : ℕ) : Type 0 where
  pub within : WithinLimits program (slot_count program.insns)
  pub starts : is_some (insn_at program.insns slot) ≡ true
  pub fine : fault_within program slot ≡ None

-- whether a slot is one up to a fault, if there is one
abbrev pub is_up_to : Option BrokenRule → ℕ → Bool
is_up_to None slot = true
is_up_to (Some fault) slot = nat_le slot fault.slot

-- the abstract state before a slot that the pass reaches
pub record IsStateBefore (program : Program) (slot : ℕ) (state : State) : Type 0 where
  pub passed : IsPassedTo program slot
  pub is : state_before program slot ≡ Some state

-- a table has for each slot where the edges into it come from
pub record AreInflows (program : Program) (inflows : List Inflow) : Type 0 where
  pub at : (slot : ℕ) → slice_index_or inflows slot Nowhere ≡ inflow program slot

-- a table has at each slot the instruction that starts there
pub record AreInsns (insns : List Insn) (table : List (Option Insn)) : Type 0 where
  pub at : (slot : ℕ) → slice_index_or table slot None ≡ insn_at insns slot

-- what an inspection keeps: the first fault, how many slots are before it, the instructions by their slots, the
-- abstract states before the slots up to the fault, and where edges come from; the instructions' fields fit
pub record IsInspection (program : Program) (fault : Option Fault) (passed : ℕ) (by_slot : List (Option Insn))
    (states : List (Option State)) (inflows : List Inflow) : Type 0 where
  pub fault_is : option_map broken_rule fault ≡ first_fault program
  pub passed_is : passed_slots program ≡ passed
  pub fits : FieldsFit program.insns
  pub insns_are : AreInsns program.insns by_slot
  pub within : 0 < length states → WithinLimits program (slot_count program.insns)
  pub states_are : WithinLimits program (slot_count program.insns) → AreStatesBefore program (passed_slots program)
      states
  pub inflows_are : AreInflows program inflows
