-- The abstract states hold on runs up to the first fault.
use Rattle.std.proofs.Common.{◌≡◌, ℕ, ◌<◌, ◌^◌, inl, inr, ◌⊎◌, true, List, [], ◌∷◌, Option, Some, None, is_some}
use Rattle.std.{proofs.Common.{sym, refl, subst, arith}, specs.{List.{AllByRecursion}, Prelude.{◌==◌}}}
use Rattle.bpf_insn_types.specs.{Limits.{sizes_fit}, Values.{AreInsns}, declared.insn.Insn.{Insn}}
use Rattle.bpf_insn_types.specs.{declared.insn.Width.TheVariants.{W64}, WordBounds.{ResultsFit}}
use Rattle.bpf_insn_types.specs.Program.{Program, insn_at, slot_count, function_of}
use Rattle.value_range.proofs.SpanLaws.{top-contains}
use Rattle.bpf_verify_model.specs.declared.{state.State.{State}, outflow.Outflow.{Outflow}}
use Rattle.bpf_verify_model.specs.{Rules.{fault_of}, Flow.{flow}, States.{known_main_entry}}
use Rattle.bpf_verify_model.specs.Inflow.{flow_from, incoming, state_before}
use Rattle.bpf_verify_model.specs.Accepted.{fault_at, first_fault, WithinLimits}
use Rattle.bpf_verify_model.proofs.JumpLaws.{fault_at-none, sizes-fit}
use Rattle.bpf_step_model.specs.{State.{Machine, main_entry}, SoundMachine.{SoundMachine}}
use Rattle.bpf_step_model.specs.Step.{StepOutcome, Next, Asks, Loops, Refuses, insn_step}
use Rattle.bpf_step_model.specs.Step.{step}
use Rattle.bpf_verify_sound.specs.{Containment.{Contained, ContainedIf}, Standing.{KeepsRules}}
use Rattle.bpf_verify_sound.{specs.KnownStates.{IsWellFormedState, IfReachedWellFormed}, proofs.Forms.{insn_step-flow}}
use Rattle.bpf_verify_sound.specs.{Ways.{FlowsTo, GoesBy, EntersBy, StepFlows}, Soundness.{OverApproximates, StepSound}}
use Rattle.bpf_verify_sound.proofs.{Tests.{and-one}, RuleLaws.{fault_of-none, fits_at}}
use Rattle.bpf_verify_sound.proofs.{KnownLaws.{incoming-known}, Moves.{within_function-flows}, LoopForms.{fresh-known}}
use Rattle.bpf_verify_sound.proofs.{InflowLaws.{state_before-brings}, SoundLaws.{step-sound, call-sound, entry-sound}}
use Rattle.bpf_verify_origin.specs.{Edges.{flow_at, passed_slots, state_between}, Inspected.{IsPassedTo}}
use Rattle.bpf_verify_origin.specs.Runs.{GoesOnTo, Enters, RunsTo, ComesTo, HoldsBefore, HoldsBetween, StatesHold}
use Rattle.bpf_verify_origin.{specs.Runs.{EachStateHolds}, proofs.FaultLaws.{passed-fine, limits}}
use Rattle.bpf_verify_origin.proofs.EdgeLaws.{received_all-brings}

-- a program is within the limits where slots are before its first fault
pub within-passed : (program : Program) → 0 < passed_slots program → WithinLimits program (slot_count program.insns)
within-passed program some =
    elim (limits program) [ inl within ↦ within | inr none ↦ absurd (omega (arith, some, none)) ]

-- what flows from an instruction that breaks no rule, at a machine that the abstract state before it contains
pub record Flows (program : Program) (m : Machine) : Type 0 where
  pub insn : Insn
  pub state : State
  pub here : insn_at program.insns m.slot ≡ Some insn
  pub known : state_before program m.slot ≡ Some state
  pub fine : fault_of program m.slot insn (Some state) ≡ None
  pub flows : StepFlows program m.slot (flow program.sizes m.slot state insn) (step program m)

insn-flows : ResultsFit → (program : Program) (m : Machine) (insn : Insn) (state : State)
    → sizes_fit program.sizes ≡ true → AreInsns program.insns → SoundMachine program m
    → insn_at program.insns m.slot ≡ Some insn → state_before program m.slot ≡ Some state
    → fault_at program m.slot ≡ None → IsWellFormedState state → Contained state m → Flows program m
unfolding step
insn-flows fit program m insn state sizes fits sound here known fine spans c =
    let breaks_none : fault_of program m.slot insn (Some state) ≡ None = rw (here, known) at fine in
    let keeps : KeepsRules program m.slot insn state =
    fault_of-none program m.slot insn state breaks_none here sizes (fits_at program.insns m.slot insn fits here) spans
    in
    record {
      insn = insn;
      state = state;
      here = here;
      known = known;
      fine = breaks_none;
      flows = rw here (within_function-flows program m.slot (flow program.sizes m.slot state insn)
          (insn_step program m insn) (insn_step-flow fit program m state insn keeps sound c));
    }

pub flows-at : ResultsFit → (program : Program) (m : Machine) → AreInsns program.insns → OverApproximates program m
    → m.slot < passed_slots program → Flows program m
flows-at fit program m fits known early =
    let within = within-passed program (omega (arith, early)) in
    let sizes = sizes-fit program.sizes (slot_count program.insns) within.small in
    let fine = fault_at-none program (passed_slots program) m.slot
    (passed-fine program (slot_count program.insns) (first_fault program) refl within) early in
    by_parts sizes fine (insn_at program.insns m.slot) refl (state_before program m.slot) refl
    (incoming-known fit program sizes fits m.slot m.slot) known.contained.contained
  where
    by_parts : sizes_fit program.sizes ≡ true → fault_at program m.slot ≡ None
        → (insn : Option Insn) → insn_at program.insns m.slot ≡ insn
        → (state : Option State) → state_before program m.slot ≡ state → IfReachedWellFormed state
        → ContainedIf state m → Flows program m
    by_parts sizes fine None here state is spans c = absurd (let stands = known.contained.stands in cc)
    by_parts sizes fine (Some insn) here None is spans c = absurd c
    by_parts sizes fine (Some insn) here (Some state) is spans c =
        insn-flows fit program m insn state sizes fits known.sound here is fine spans c

-- it is what flows by the definitions
out-from : (program : Program) (m : Machine) → (f : Flows program m)
    → flow program.sizes m.slot f.state f.insn
    ≡ flow_from program m.slot (insn_at program.insns m.slot) (state_before program m.slot)
out-from program m f = rw (f.here, f.known, f.fine) refl

out-at : (program : Program) (m : Machine) → (f : Flows program m) → flow program.sizes m.slot f.state f.insn
    ≡ flow_at program m.slot
out-at program m f = rw (f.here, f.known) refl

-- where a step goes
pub goes-by : (program : Program) (slot : ℕ) (out : Outflow) (move : StepOutcome) (m : Machine)
    → StepFlows program slot out move → GoesOnTo move m → GoesBy program slot out m
goes-by program slot out (Next next) m f g = rw g f
goes-by program slot out (Asks element request next) m f g = rw g.2 (f.1 g.0 g.1)
goes-by program slot out (Loops call next) m f g = rw g.2 (f.1 g.0 g.1)
goes-by program slot out (Refuses call next) m f g = rw g f
goes-by program slot out _ m f g = absurd g

-- where it leads, also into a callback
leads-by : (program : Program) (slot : ℕ) (out : Outflow) (move : StepOutcome) (m : Machine)
    → StepFlows program slot out move → (GoesOnTo move m ⊎ Enters move m) → EntersBy program slot out m
leads-by program slot out move m f (inl goes) =
    let by = goes-by program slot out move m f goes in
    record {
      stands = and-one (is_some (insn_at program.insns m.slot))
          (function_of program.insns slot == function_of program.insns m.slot) by.same;
      later = by.later;
      flows = by.flows;
    }
leads-by program slot out (Loops call next) m f (inr enters) = rw enters.2 (f.0 enters.0 enters.1)
leads-by program slot out _ m f (inr enters) = absurd enters

-- it leads to sound machines
pub sound-next : (program : Program) (move : StepOutcome) (m : Machine) → StepSound program move
    → (GoesOnTo move m ⊎ Enters move m) → SoundMachine program m
sound-next program (Next next) m s (inl g) = rw g s
sound-next program (Asks element request next) m s (inl g) = rw g.2 (s g.0 g.1).0
sound-next program (Loops call next) m s (inl g) = rw g.2 (s.1 g.0 g.1)
sound-next program (Refuses call next) m s (inl g) = rw g s
sound-next program (Loops call next) m s (inr g) = rw g.2 (call-sound program call s.0 g.0 g.1)
sound-next program _ m s (inl g) = absurd g
sound-next program _ m s (inr g) = absurd g

-- a machine to which a step leads from a slot before the first fault
pub record Stepped (program : Program) (before m : Machine) : Type 0 where
  pub known : OverApproximates program m
  pub later : before.slot < m.slot
  pub flows : FlowsTo (flow_at program before.slot) m

pub step-leads : ResultsFit → (program : Program) (before m : Machine) → AreInsns program.insns
    → OverApproximates program before → Flows program before
    → (GoesOnTo (step program before) m ⊎ Enters (step program before) m) → Stepped program before m
step-leads fit program before m fits known f leads =
    let by = leads-by program before.slot (flow program.sizes before.slot f.state f.insn) (step program before) m
    f.flows leads in
    record {
      known = record {
        sound = sound-next program (step program before) m (step-sound fit program fits before known.sound) leads;
        contained = record {
          stands = by.stands;
          contained = state_before-brings program before.slot m by.later (rw (out-from program before f) at by.flows);
        };
      };
      later = by.later;
      flows = rw (out-at program before f) at by.flows;
    }

-- main starts within the abstract states
first-stands : (insns : List Insn) → 0 < slot_count insns → is_some (insn_at insns 0) ≡ true
first-stands [] some = absurd (omega arith)
first-stands (x ∷ insns) some = refl

entry-contained : (argument : ℕ) → argument < 2 ^ 64 → Contained known_main_entry (main_entry argument)
unfolding known_main_entry
entry-contained argument h = record {
  registers = (tt, (top-contains W64 argument h, (tt, (tt, (tt, (tt, (tt, (tt, (tt, (tt, (refl, tt)))))))))));
  own = fresh-known;
  caller = tt;
}

entry-known : (program : Program) (argument : ℕ) → 0 < slot_count program.insns → argument < 2 ^ 64
    → OverApproximates program (main_entry argument)
unfolding incoming
entry-known program argument some h = record {
  sound = entry-sound program argument h;
  contained = record { stands = first-stands program.insns some; contained = entry-contained argument h };
}

-- each run that passed only slots before the first fault is within the abstract states
pub run-known : ResultsFit → (program : Program) → AreInsns program.insns → 0 < slot_count program.insns
    → (passed : List Machine) (m : Machine) → RunsTo program passed m
    → AllByRecursion (λ (before : Machine). before.slot < passed_slots program) passed → OverApproximates program m
run-known fit program fits some [] m run early = rw run.2 (entry-known program run.0 some run.1)
run-known fit program fits some (before ∷ earlier) m run early =
    let known : OverApproximates program before = run-known fit program fits some earlier before run.1 early.1 in
    (step-leads fit program before m fits known (flows-at fit program before fits known early.0) run.0).known

-- the last step of a run
pub record LastStep (program : Program) (before m : Machine) : Type 0 where
  pub known : OverApproximates program before
  pub here : Flows program before
  pub stepped : Stepped program before m

pub last-step : ResultsFit → (program : Program) → AreInsns program.insns → (before : Machine) (earlier : List Machine)
    (m : Machine) → ComesTo program (before ∷ earlier) m → LastStep program before m
last-step fit program fits before earlier m comes =
    let early : before.slot < passed_slots program = comes.early.0 in
    let within : WithinLimits program (slot_count program.insns) = within-passed program (omega arith) in
    let known : OverApproximates program before =
    run-known fit program fits within.some earlier before comes.run.1 comes.early.1 in
    let here : Flows program before = flows-at fit program before fits known early in
    record { known = known; here = here; stepped = step-leads fit program before m fits known here comes.run.0 }

between-holds : ResultsFit → (program : Program) → AreInsns program.insns → (from to : ℕ)
    → HoldsBetween program from to (state_between program from to)
between-holds fit program fits from to before earlier m comes at_from at_to =
    rw (← at_from, ← at_to) (received_all-brings None (flow_at program before.slot) m
    (last-step fit program fits before earlier m comes).stepped.flows)

pub states-hold : ResultsFit → EachStateHolds
states-hold fit program fits = record {
  before = λ within passed m comes. (run-known fit program fits within.some passed m comes.run comes.early).contained;
  between = between-holds fit program fits;
}

-- what is known before a slot
pub holds-before : (program : Program) (slot : ℕ) (found : Option State) → StatesHold program
    → IsPassedTo program slot → found ≡ state_before program slot → HoldsBefore program slot found
holds-before program slot found hold to is passed m comes at =
    rw (is, ← at) (hold.before to.within passed m comes).contained
