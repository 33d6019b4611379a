-- The slots to which the verifier's pass comes, and the abstract states there.
use Rattle.std.proofs.Common.{◌≡◌, ℕ, ◌<◌, ◌≤◌, true, List, [], ◌∷◌, length, get_or, refl, sym, arith, is_some}
use Rattle.std.{proofs.Common.{Option, Some, None}, specs.Prelude.{IfSome}}
use Rattle.std.proofs.lemmas.Bool.{leb-true}
use Rattle.bpf_insn_types.specs.Program.{Program, insn_at, slot_count}
use Rattle.bpf_verify_model.specs.declared.state.State.{State}
use Rattle.bpf_verify_model.specs.Accepted.{BrokenRule, fault_within, first_fault, WithinLimits}
use Rattle.bpf_verify.{specs.States.{AreStatesBefore}, proofs.PassLaws.{fault_within-later}}
use Rattle.bpf_verify_origin.specs.Edges.{passed_slots, slots_before}
use Rattle.bpf_verify_origin.specs.Inspected.{IsPassedTo, IsStateBefore, is_up_to}
use Rattle.bpf_verify_origin.proofs.{FaultLaws.{starts-within, passed-fine}, InspectionLaws.{state-there}}

-- where n slots break no rule, fewer break none
pub fine-earlier : (program : Program) (slot n : ℕ) → fault_within program n ≡ None → slot ≤ n
    → fault_within program slot ≡ None
fine-earlier program slot n fine earlier = by_found (fault_within program slot) refl
  where
    by_found : (found : Option BrokenRule) → fault_within program slot ≡ found → found ≡ None
    by_found None is = refl
    by_found (Some fault) is = absurd (let later = fault_within-later program slot n fault is earlier in cc)

-- the pass comes to a slot up to the first fault where an instruction starts
pub passed-there : (program : Program) (slot : ℕ) → slot ≤ passed_slots program
    → WithinLimits program (slot_count program.insns) → is_some (insn_at program.insns slot) ≡ true
    → IsPassedTo program slot
passed-there program slot up_to within starts = record {
  within = within;
  starts = starts;
  fine = fine-earlier program slot (passed_slots program)
      (passed-fine program (slot_count program.insns) (first_fault program) refl within) up_to;
}

pub up_to-passed : (program : Program) (slot : ℕ) (fault : Option BrokenRule) → fault ≡ first_fault program
    → is_up_to fault slot ≡ true → WithinLimits program (slot_count program.insns)
    → is_some (insn_at program.insns slot) ≡ true → IsPassedTo program slot
up_to-passed program slot fault is up_to within starts =
    passed-there program slot (rw is at (by_fault fault up_to)) within starts
  where
    by_fault : (f : Option BrokenRule) → is_up_to f slot ≡ true → slot ≤ slots_before f (slot_count program.insns)
    by_fault None e = omega (arith, starts-within program.insns slot starts)
    by_fault (Some f) e = leb-true slot f.slot e

some-kept : (states : List (Option State)) (slot : ℕ) (state : State) → Some state ≡ get_or states slot None
    → 0 < length states
some-kept [] slot state is = absurd (let none : Some state ≡ None = is in cc)
some-kept (first ∷ states) slot state is = omega arith

-- what an inspection keeps is the abstract state before a slot to which the pass comes
pub state-passed : (program : Program) (states : List (Option State)) (slot : ℕ) (found : Option State) →
    (0 < length states → WithinLimits program (slot_count program.insns))
    → (WithinLimits program (slot_count program.insns) → AreStatesBefore program (passed_slots program) states)
    → found ≡ get_or states slot None → is_some (insn_at program.insns slot) ≡ true
    → slot ≤ passed_slots program → IfSome found (λ state. IsStateBefore program slot state)
state-passed program states slot None within are is starts up_to = tt
state-passed program states slot (Some state) within are is starts up_to =
    let to = passed-there program slot up_to (within (some-kept states slot state is)) starts in
    record { passed = to; is = sym (state-there program states slot (Some state) are is to) }
