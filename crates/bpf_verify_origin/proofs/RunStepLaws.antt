-- Steps of the machine's definition go on from a run.
use Rattle.std.proofs.Common.{◌≡◌, ℕ, zero, suc, ◌<◌, ◌^◌, inl, List, [], ◌∷◌, ◌++◌, sym, subst, append_assoc}
use Rattle.std.{specs.Prelude.{slice_index}, proofs.lemmas.Option.{get_or_from_slice_get}}
use Rattle.array_maps.specs.{Accesses.{Access, left_by}, MapList.{AreWords}}
use Rattle.bpf_insn_types.specs.{Values.{AreInsns}, Program.{Program}, WordBounds.{ResultsFit}}
use Rattle.bpf_step_model.specs.{State.{Machine}, SoundMachine.{SoundMachine}, Run.{action_of}, Steps.{GoesOn, Steps}}
use Rattle.bpf_step_model.specs.Step.{StepOutcome, NoStep, Next, Asks, step}
use Rattle.bpf_verify_sound.{specs.Soundness.{StepSound}, proofs.{RegisterLaws.{all-set}, RunLaws.{word-at}}}
use Rattle.bpf_verify_sound.proofs.SoundLaws.{step-sound, entry-sound}
use Rattle.bpf_verify_origin.specs.{Runs.{GoesOnTo, RunsTo}, RunSteps.{StepsAreRuns}}
use Rattle.bpf_verify_origin.proofs.RunLaws.{sound-next}

-- each machine of a run is sound
sound-run : ResultsFit → (program : Program) → AreInsns program.insns → (passed : List Machine) (m : Machine)
    → RunsTo program passed m → SoundMachine program m
sound-run fit program fits [] m run = rw run.2 (entry-sound program run.0 run.1)
sound-run fit program fits (before ∷ earlier) m run =
    sound-next program (step program before) m
    (step-sound fit program fits before (sound-run fit program fits earlier before run.1)) run.0

-- one step over the maps' words
goes-on : (program : Program) (move : StepOutcome) (next : Machine) (words between : List ℕ) (accesses : List Access)
    → GoesOn move words accesses next between → StepSound program move → AreWords words
    → GoesOnTo move next × AreWords between
goes-on program NoStep next words between accesses goes s fit = absurd goes
goes-on program (Next there) next words between accesses goes s fit =
    (goes.1, subst AreWords (sym goes.2) fit)
goes-on program (Asks element request there) next words between accesses goes s fit =
    let fits : goes.0 < 2 ^ 64 = word-at words element goes.0 fit goes.1 in
    let at : slice_index words element ≡ goes.0 = get_or_from_slice_get words element goes.0 0 goes.1 in (
      (goes.0, fits, goes.3),
      subst AreWords (sym goes.4)
          (all-set (λ (word : ℕ). word < 2 ^ 64) words element
          (left_by (action_of request goes.0) (slice_index words element)) fit
          (subst (λ (word : ℕ). left_by (action_of request goes.0) word < 2 ^ 64) (sym at) (s goes.0 fits).1)),
    )
goes-on program _ next words between accesses goes s fit = absurd goes

pub steps-run : ResultsFit → (program : Program) → AreInsns program.insns → (count : ℕ) (passed : List Machine)
    (m : Machine) → RunsTo program passed m → (words : List ℕ) → AreWords words
    → (accesses : List Access) (last : Machine) (after : List ℕ) → Steps program count m words accesses last after
    → (more : List Machine) × RunsTo program (more ++ passed) last × AreWords after
steps-run fit program fits zero passed m run words w accesses last after steps =
    ([], subst (RunsTo program passed) (sym steps.1) run, subst AreWords (sym steps.2) w)
steps-run fit program fits (suc count) passed m run words w accesses last after steps =
    let one : GoesOnTo (step program m) steps.0 × AreWords steps.1 =
    goes-on program (step program m) steps.0 words steps.1 steps.2 steps.4
    (step-sound fit program fits m (sound-run fit program fits passed m run)) w in
    let rest : (more : List Machine) × RunsTo program (more ++ (m ∷ passed)) last × AreWords after =
    steps-run fit program fits count (m ∷ passed) steps.0 (inl one.0, run) steps.1 one.1 steps.3 last after steps.5 in (
      rest.0 ++ (m ∷ []),
      subst (λ (l : List Machine). RunsTo program l last) (sym (append_assoc rest.0 (m ∷ []) passed)) rest.1,
      rest.2,
    )

pub steps-are_runs : ResultsFit → StepsAreRuns
steps-are_runs fit program fits passed m run words w count accesses last after steps =
    steps-run fit program fits count passed m run words w accesses last after steps
