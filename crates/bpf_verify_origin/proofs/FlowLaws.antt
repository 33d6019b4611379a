-- What flows from a slot before the first fault.
use Rattle.std.proofs.{Common.{◌≡◌, ℕ, ◌<◌, ◌≤◌, true, arith, is_some}, lemmas.Bool.{lt-ltb, le-ltb}}
use Rattle.std.proofs.Common.{refl, None}
use Rattle.bpf_insn_types.specs.Program.{Program, insn_at}
use Rattle.bpf_verify_model.specs.{declared.outflow.Outflow.{Outflow}, Inflow.{no_edges, received_all}}
use Rattle.bpf_verify_origin.specs.Edges.{flow_at, flow_passed, passed_slots}
use Rattle.bpf_verify_origin.specs.{Inspected.{IsPassedTo}, Runs.{HoldsBetween, StatesHold}}
use Rattle.bpf_verify_origin.proofs.{PassedLaws.{passed-there}, RunLaws.{within-passed}}

-- the pass comes to a slot before it where an instruction starts
pub passed-to : (program : Program) (slot : ℕ) → slot < passed_slots program
    → is_some (insn_at program.insns slot) ≡ true → IsPassedTo program slot
passed-to program slot early starts =
    passed-there program slot (omega (arith, early)) (within-passed program (omega (arith, early))) starts

pub flow-none : (program : Program) (slot : ℕ) → passed_slots program ≤ slot → no_edges ≡ flow_passed program slot
flow-none program slot past = rw (le-ltb slot (passed_slots program) past) refl

pub flow-there : (program : Program) (slot : ℕ) (out : Outflow) → slot < passed_slots program
    → out ≡ flow_at program slot → out ≡ flow_passed program slot
flow-there program slot out early is = rw (lt-ltb slot (passed_slots program) early) is

-- it holds on runs
pub flow-holds : (program : Program) (slot : ℕ) (out : Outflow) → StatesHold program → out ≡ flow_passed program slot
    → (to : ℕ) → HoldsBetween program slot to (received_all to None out)
flow-holds program slot out hold is to before earlier m comes at_from at_to =
    let test = lt-ltb slot (passed_slots program) (rw at_from at comes.early.0) in
    rw (is, test) (hold.between slot to before earlier m comes at_from at_to)
