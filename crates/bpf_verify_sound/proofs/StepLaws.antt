-- Main starts within the abstract states, and one step of an accepted program goes on so.
use Rattle.bpf_insn_types.specs.{Program.{Program, insn_at, slot_count, function_of}, Values.{AreInsns}}
use Rattle.bpf_insn_types.specs.{WordBounds.{ResultsFit}, declared.insn.{Insn.{Insn}, Width.TheVariants.{W64}}}
use Rattle.bpf_step_model.specs.{ProgramInOrder.{resumed}, Run.{after_request}, SoundMachine.{SoundMachine}}
use Rattle.bpf_step_model.specs.State.{main_entry, Machine, callback_entry}
use Rattle.bpf_step_model.specs.Step.{StepOutcome, NoStep, Next, Asks, Loops, Refuses, Exits, within_function}
use Rattle.bpf_step_model.specs.Step.{insn_step, insn_step_if_any, step}
use Rattle.bpf_verify_model.specs.{Accepted.{Accepted, first_fault}, Flow.{flow}}
use Rattle.bpf_verify_model.specs.{Inflow.{incoming, state_before, flow_from}, Rules.{fault_of}}
use Rattle.bpf_verify_model.specs.{States.{known_main_entry}, declared.state.State.{State}}
use Rattle.bpf_verify_sound.proofs.{Forms.{insn_step-flow}, InflowLaws.{state_before-brings}}
use Rattle.bpf_verify_sound.proofs.{KnownLaws.{incoming-known}, LoopForms.{fresh-known}, Moves.{within_function-flows}}
use Rattle.bpf_verify_sound.proofs.RuleLaws.{fault_of-none, accepted-at, accepted-sizes, fits_at}
use Rattle.bpf_verify_sound.proofs.{SoundLaws.{entry-sound}, Tests.{and-one, test-fails}}
use Rattle.bpf_verify_sound.specs.Containment.{Contained, ContainedIf, ContainedBefore}
use Rattle.bpf_verify_sound.specs.KnownStates.{IsWellFormedState, IfReachedWellFormed}
use Rattle.bpf_verify_sound.specs.{Soundness.{IsSoundProgram, OverApproximates, StepContained}, Standing.{KeepsRules}}
use Rattle.bpf_verify_sound.specs.Ways.{GoesBy, StepFlows}
use Rattle.std.proofs.Common.{◌≡◌, ℕ, ◌<◌, ◌^◌, true, false, List, [], ◌∷◌, Option, Some, None, is_some, refl, sym, ap}
use Rattle.std.{proofs.Common.{◌∙◌}, specs.Prelude.{◌==◌}}
use Rattle.value_range.proofs.SpanLaws.{top-contains}

-- an accepted program has an instruction at slot 0
pub accepted-some : (program : Program) → Accepted program → (slot_count program.insns == 0) ≡ false
unfolding first_fault
accepted-some program accepted = test-fails (slot_count program.insns == 0) _ _ accepted

first-stands : (insns : List Insn) → (slot_count insns == 0) ≡ false → is_some (insn_at insns 0) ≡ true
first-stands [] e = absurd cc
first-stands (x ∷ insns) e = refl

entry-contained : (argument : ℕ) → argument < 2 ^ 64 → Contained known_main_entry (main_entry argument)
unfolding known_main_entry
entry-contained argument h = record {
  registers = (tt, (top-contains W64 argument h, (tt, (tt, (tt, (tt, (tt, (tt, (tt, (tt, (refl, tt)))))))))));
  own = fresh-known;
  caller = tt;
}

main-contained : (program : Program) (argument : ℕ) → Accepted program → argument < 2 ^ 64
    → ContainedBefore program (main_entry argument)
unfolding incoming
main-contained program argument accepted h = record {
  stands = first-stands program.insns (accepted-some program accepted);
  contained = entry-contained argument h;
}

pub main-starts : (program : Program) → IsSoundProgram program → (argument : ℕ) → argument < 2 ^ 64
    → OverApproximates program (main_entry argument)
main-starts program sound argument h = record {
  sound = entry-sound program argument h;
  contained = main-contained program argument sound.accepted h;
}

-- where the edges out of a slot are those of the definitions, each machine that a step leads to is contained before its
-- slot
goes-contained : (program : Program) (slot : ℕ) (m : Machine)
    → GoesBy program slot (flow_from program slot (insn_at program.insns slot) (state_before program slot)) m
    → ContainedBefore program m
goes-contained program slot m goes = record {
  stands = and-one (is_some (insn_at program.insns m.slot)) (function_of program.insns slot == function_of program.insns
      m.slot) goes.same;
  contained = state_before-brings program slot m goes.later goes.flows;
}

move-contained : (program : Program) (slot : ℕ) (move : StepOutcome)
    → StepFlows program slot (flow_from program slot (insn_at program.insns slot) (state_before program slot)) move
    → StepContained program move
move-contained program slot NoStep f = f
move-contained program slot (Next next) f = goes-contained program slot next f
move-contained program slot (Asks element request next) f =
    (f.0, λ word w. goes-contained program slot (after_request request word next) (f.1 word w))
move-contained program slot (Loops call next) f = (
  λ index h. record {
    stands = (f.0 index h).stands;
    contained = state_before-brings program slot (callback_entry call index) (f.0 index h).later (f.0 index h).flows;
  },
  λ answer h. goes-contained program slot (resumed next answer) (f.1 answer h),
)
move-contained program slot (Refuses call next) f = goes-contained program slot next f
move-contained program slot (Exits ret) f = tt

module _ (fit : ResultsFit) (program : Program) (m : Machine) (accepted : Accepted program)
    (fits : AreInsns program.insns)
    (sound : SoundMachine program m) where
  -- at an instruction before which something is known
  insn-contained : (insn : Insn) (state : State) → insn_at program.insns m.slot ≡ Some insn
      → state_before program m.slot ≡ Some state → IsWellFormedState state → Contained state m →
      StepContained program (within_function program m.slot (insn_step program m insn))
  insn-contained insn state here reached spans c =
      let fine : fault_of program m.slot insn (Some state) ≡ None = sym (ap (fault_of program m.slot insn) reached)
      ∙ accepted-at program m.slot insn accepted here in
      let keeps : KeepsRules program m.slot insn state = fault_of-none program m.slot insn state fine here
      (accepted-sizes program accepted) (fits_at program.insns m.slot insn fits here) spans in
      move-contained program m.slot (within_function program m.slot (insn_step program m insn))
      (rw (here, reached, fine) (within_function-flows program m.slot (flow program.sizes m.slot state insn)
      (insn_step program m insn) (insn_step-flow fit program m state insn keeps sound c)))

  -- at any slot; where no instruction starts nothing is known
  by_state : (insn : Insn) (o : Option State) → insn_at program.insns m.slot ≡ Some insn
      → state_before program m.slot ≡ o
      → IfReachedWellFormed o → ContainedIf o m
      → StepContained program (within_function program m.slot (insn_step program m insn))
  by_state insn None here reached spans c = absurd c
  by_state insn (Some state) here reached spans c = insn-contained insn state here reached spans c

  by_insn : (o : Option Insn) → insn_at program.insns m.slot ≡ o → ContainedBefore program m
      → StepContained program (insn_step_if_any program m o)
  by_insn None here c = absurd (let e = sym (ap is_some here) ∙ c.stands in cc)
  by_insn (Some insn) here c = by_state insn (state_before program m.slot) here refl
      (incoming-known fit program (accepted-sizes program accepted) fits m.slot m.slot) c.contained

  pub step-contained : ContainedBefore program m → StepContained program (step program m)
  unfolding step
  step-contained c = by_insn (insn_at program.insns m.slot) refl c
