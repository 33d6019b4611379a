-- Runs of a program's machine up to its first fault.
use Rattle.std.specs.{Prelude.{◌≡◌, ℕ, ◌<◌, ◌^◌, ◌⊎◌, List, [], ◌∷◌, Option}, List.{AllByRecursion}}
use Rattle.bpf_insn_types.specs.{Values.{AreInsns}, Program.{Program, slot_count}}
use Rattle.bpf_verify_model.specs.{declared.state.State.{State}, Accepted.{WithinLimits}}
use Rattle.bpf_step_model.specs.{State.{Machine, main_entry, callback_entry}, Run.{after_request}}
use Rattle.bpf_step_model.specs.Step.{StepOutcome, NoStep, Next, Asks, Loops, Refuses, Exits, step}
use Rattle.bpf_step_model.specs.ProgramInOrder.{resumed}
use Rattle.bpf_verify_sound.specs.Containment.{ContainedIf, ContainedBefore}
use Rattle.bpf_verify_origin.specs.Edges.{passed_slots, state_between}

-- a step goes on to a machine of the same function, whatever word below 2 ^ 64 is at the element that it asks for, and
-- whatever a loop answers
abbrev pub GoesOnTo : StepOutcome → Machine → Type 0
GoesOnTo (Next next) m = m ≡ next
GoesOnTo (Asks element request next) m = (word : ℕ) × (word < 2 ^ 64) × (m ≡ after_request request word next)
GoesOnTo (Loops call next) m = (answer : ℕ) × (answer < 2 ^ 64) × (m ≡ resumed next answer)
GoesOnTo (Refuses call next) m = m ≡ next
GoesOnTo NoStep m = ⊥
GoesOnTo (Exits ret) m = ⊥

-- a loop call enters its callback, which starts as this machine at an index below the number of iterations
abbrev pub Enters : StepOutcome → Machine → Type 0
Enters (Loops call next) m = (index : ℕ) × (index < call.n) × (m ≡ callback_entry call index)
Enters _ m = ⊥

-- a run reaches a machine by those that it passed, the latest first: main starts, at any argument, and each step goes
-- on or enters a callback
abbrev pub RunsTo : Program → List Machine → Machine → Type 0
RunsTo program [] m = (argument : ℕ) × (argument < 2 ^ 64) × (m ≡ main_entry argument)
RunsTo program (before ∷ earlier) m = (GoesOnTo (step program before) m ⊎ Enters (step program before) m)
    × RunsTo program earlier before

-- a run reaches a machine, having passed only slots before the first fault
pub record ComesTo (program : Program) (passed : List Machine) (m : Machine) : Type 0 where
  pub run : RunsTo program passed m
  pub early : AllByRecursion (λ (before : Machine). before.slot < passed_slots program) passed

-- what is known before a slot holds on runs: it contains each machine with which a run reaches the slot; if nothing is
-- known, no run reaches it
abbrev pub HoldsBefore : Program → ℕ → Option State → Type 0
HoldsBefore program slot known = (passed : List Machine) (m : Machine) → ComesTo program passed m → m.slot ≡ slot
    → ContainedIf known m

-- what is known on the edges from one slot to another holds on the runs that go from the first to the second
abbrev pub HoldsBetween : Program → (from to : ℕ) → Option State → Type 0
HoldsBetween program from to known = (before : Machine) (earlier : List Machine) (m : Machine)
    → ComesTo program (before ∷ earlier) m → before.slot ≡ from → m.slot ≡ to → ContainedIf known m

-- what is known of a program's slots holds on its runs: an instruction starts at each slot that a run reaches, and the
-- abstract state before the slot contains the machine, and so does that on the edges by which the run reached it
pub record StatesHold (program : Program) : Type 0 where
  pub before : WithinLimits program (slot_count program.insns) → (passed : List Machine) (m : Machine)
      → ComesTo program passed m → ContainedBefore program m
  pub between : (from to : ℕ) → HoldsBetween program from to (state_between program from to)

-- the law of states, of programs that are refused too
abbrev pub EachStateHolds : Type 0
EachStateHolds = (program : Program) → AreInsns program.insns → StatesHold program
