-- What an inspection keeps, of its parts.
use Rattle.std.proofs.Common.{◌≡◌, ℕ, inl, inr, List, [], length, get_or, ap, ◌∙◌, arith, Option, None}
use Rattle.std.specs.Option.{option_map}
use Rattle.bpf_insn_types.specs.{declared.insn.Insn.{Insn}, Program.{Program, slot_count}}
use Rattle.bpf_insn_types.specs.Values.{AreInsns as FieldsFit}
use Rattle.bpf_verify_model.specs.{declared.state.State.{State}, Inflow.{state_before}}
use Rattle.bpf_verify_model.specs.Accepted.{first_fault, WithinLimits}
use Rattle.bpf_verify.specs.States.{AreStatesBefore}
use Rattle.bpf_verify_origin.specs.declared.{inflow.Inflow.{Inflow}, fault.Fault.{Fault}}
use Rattle.bpf_verify_origin.specs.{Edges.{passed_slots}, Inspected.{broken_rule, IsPassedTo, AreInsns, IsInspection}}
use Rattle.bpf_verify_origin.proofs.{FaultLaws.{passed-up_to, limits}, InflowLaws.{no-inflows}}

-- an inspection of a program that isn't within the limits
pub inspection-outside : (program : Program) (fault : Option Fault) (by_slot : List (Option Insn))
    (states : List (Option State)) (inflows : List Inflow) → FieldsFit program.insns
    → AreInsns program.insns by_slot → option_map broken_rule fault ≡ first_fault program
    → (WithinLimits program (slot_count program.insns) → ⊥) → states ≡ [] → inflows ≡ []
    → IsInspection program fault 0 by_slot states inflows
inspection-outside program fault by_slot states inflows fits found is outside no_states no_inflows =
    let none : passed_slots program ≡ 0 = elim (limits program) [
      | inl within ↦ absurd (outside within)
      | inr none ↦ none
    ] in
    record {
      fault_is = is;
      passed_is = none;
      fits = fits;
      insns_are = found;
      within = λ some. absurd (omega (arith, ap length no_states, some));
      states_are = λ within. absurd (outside within);
      inflows_are = rw no_inflows (no-inflows program none);
    }

-- the abstract state before a slot to which the pass comes
pub state-there : (program : Program) (states : List (Option State)) (slot : ℕ) (found : Option State) →
    (WithinLimits program (slot_count program.insns) → AreStatesBefore program (passed_slots program) states)
    → found ≡ get_or states slot None → IsPassedTo program slot → found ≡ state_before program slot
state-there program states slot found are is to =
    is ∙ (are to.within).at slot (passed-up_to program slot to) to.starts
