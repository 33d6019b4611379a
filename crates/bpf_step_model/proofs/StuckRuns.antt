-- A run is stuck exactly where its states come to one that has no step.
use Rattle.std.proofs.Common.{◌≡◌, ℕ, zero, suc, ◌<◌, List, [], ◌∷◌, ◌++◌, Option, Some, None, refl, sym, ap, subst}
use Rattle.std.{proofs.Common.{arith}, specs.Prelude.{slice_get}}
use Rattle.array_maps.specs.Accesses.{Access, words_after}
use Rattle.bpf_insn_types.specs.Program.{Program}
use Rattle.bpf_step_model.{specs.{State.{Machine}, Run.{after_access, after_step, run}}, proofs.Endings.{mapped_stuck}}
use Rattle.bpf_step_model.specs.Step.{Request, StepOutcome, NoStep, Next, Asks, Loops, Refuses, Exits, step}
use Rattle.bpf_step_model.specs.Run.{BoundedResult, Stuck, RunSegment, after_request, mapped, with_first_step}
use Rattle.bpf_step_model.specs.Steps.{access_of, GoesOn, Steps, HasNoStep, LeadsToNoStep, RunIsStuck}

module _ (program : Program) where
  -- what is claimed of a run that is stuck
  abbrev pub IsLed : ℕ → Machine → List ℕ → Type 0
  IsLed bound m words = (states : LeadsToNoStep program m words) × (states.before < bound)

  no_step_here : (bound : ℕ) (m : Machine) (words : List ℕ) → HasNoStep (step program m) words
      → IsLed (suc bound) m words
  no_step_here bound m words stuck = (
    record { before = 0; accesses = []; last = m; after = words; steps = (refl, refl, refl); stuck = stuck },
    omega arith,
  )

  no_step_later : (bound : ℕ) (m next : Machine) (words between : List ℕ) (first : List Access)
      → GoesOn (step program m) words first next between →
      IsLed bound next between → IsLed (suc bound) m words
  no_step_later bound m next words between first goes led =
      let states = led.0 in (
        record {
          before = suc states.before;
          accesses = first ++ states.accesses;
          last = states.last;
          after = states.after;
          steps = (next, between, first, states.accesses, goes, states.steps, refl);
          stuck = states.stuck;
        },
        (let short = led.1 in omega arith),
      )

  -- a run is stuck where its states are
  abbrev pub Leads : ℕ → Type 0
  Leads bound = (m : Machine) (words : List ℕ) → run program bound m words ≡ Stuck → IsLed bound m words

  by_access : (bound : ℕ) → Leads bound → (m next : Machine) (element : ℕ) (request : Request)
      → step program m ≡ Asks element request next →
      (words : List ℕ) (o : Option ℕ) → slice_get words element ≡ o → after_access (run program bound) element request
      next words o ≡ Stuck → IsLed (suc bound) m words
  by_access bound leads m next element request moves words None there h =
      no_step_here bound m words (subst (λ (move : StepOutcome). HasNoStep move words) (sym moves) there)
  by_access bound leads m next element request moves words (Some word) there h =
      let access : Access = access_of element request word in
      let goes : GoesOn (step program m) words (access ∷ []) (after_request request word next)
      (words_after access words) =
      subst (λ (move : StepOutcome). GoesOn move words (access ∷ []) (after_request request word next)
      (words_after access words)) (sym moves) (word, there, refl, refl, refl) in
      no_step_later bound m (after_request request word next) words (words_after access words) (access ∷ []) goes
      (leads (after_request request word next) (words_after access words) (mapped_stuck (with_first_step (access ∷ []))
      (run program bound (after_request request word next) (words_after access words)) h))

  by_move : (bound : ℕ) → Leads bound → (m : Machine) (words : List ℕ) (move : StepOutcome) → step program m ≡ move →
      after_step (run program bound) m.slot move words ≡ Stuck → IsLed (suc bound) m words
  by_move bound leads m words NoStep moves h =
      no_step_here bound m words (subst (λ (move : StepOutcome). HasNoStep move words) (sym moves) tt)
  by_move bound leads m words (Next next) moves h =
      let goes : GoesOn (step program m) words [] next words =
      subst (λ (move : StepOutcome). GoesOn move words [] next words) (sym moves) (refl, refl, refl) in
      no_step_later bound m next words words [] goes
      (leads next words (mapped_stuck (with_first_step []) (run program bound next words) h))
  by_move bound leads m words (Asks element request next) moves h = by_access bound leads m next element request moves
      words (slice_get words element) refl h
  by_move bound leads m words (Loops call next) moves h = absurd (cc)
  by_move bound leads m words (Refuses call next) moves h = absurd (cc)
  by_move bound leads m words (Exits ret) moves h = absurd (cc)

  pub leads_to_no_step : (bound : ℕ) → Leads bound
  leads_to_no_step zero m words h = absurd (cc)
  leads_to_no_step (suc bound) m words h = by_move bound (leads_to_no_step bound) m words (step program m) refl h

  -- the other way: an instruction with no step, and one that goes on to a stuck run
  move_stuck : (go_on : Machine → List ℕ → BoundedResult RunSegment) (slot : ℕ) (move : StepOutcome) (words : List ℕ)
      → HasNoStep move words → after_step go_on slot move words ≡ Stuck
  move_stuck go_on slot NoStep words h = refl
  move_stuck go_on slot (Asks element request next) words h = ap (after_access go_on element request next words) h
  move_stuck go_on slot (Next next) words h = absurd h
  move_stuck go_on slot (Loops call next) words h = absurd h
  move_stuck go_on slot (Refuses call next) words h = absurd h
  move_stuck go_on slot (Exits ret) words h = absurd h

  move_goes : (go_on : Machine → List ℕ → BoundedResult RunSegment) (slot : ℕ) (move : StepOutcome)
      (words between : List ℕ) (first : List Access) (next : Machine) →
      GoesOn move words first next between → go_on next between ≡ Stuck → after_step go_on slot move words ≡ Stuck
  move_goes go_on slot NoStep words between first next goes h = absurd goes
  move_goes go_on slot (Next m) words between first next goes h =
      ap (mapped (with_first_step [])) (subst (λ (n : Machine). go_on n words ≡ Stuck) goes.1
      (subst (λ (ws : List ℕ). go_on next ws ≡ Stuck) goes.2 h))
  move_goes go_on slot (Asks element request m) words between first next goes h =
      let access : Access = access_of element request goes.0 in
      let stuck : go_on (after_request request goes.0 m) (words_after access words) ≡ Stuck =
      subst (λ (n : Machine). go_on n (words_after access words) ≡ Stuck) goes.3
      (subst (λ (ws : List ℕ). go_on next ws ≡ Stuck) goes.4 h) in
      subst (λ (o : Option ℕ). after_access go_on element request m words o ≡ Stuck) (sym goes.1)
      (ap (mapped (with_first_step (access ∷ []))) stuck)
  move_goes go_on slot (Loops call m) words between first next goes h = absurd goes
  move_goes go_on slot (Refuses call m) words between first next goes h = absurd goes
  move_goes go_on slot (Exits ret) words between first next goes h = absurd goes

  pub stuck_from : (count bound : ℕ) → count < bound → (m : Machine) (words : List ℕ) (accesses : List Access)
      (last : Machine) (after : List ℕ) →
      Steps program count m words accesses last after → HasNoStep (step program last) after → run program bound m words
      ≡ Stuck
  stuck_from count zero short m words accesses last after steps stuck = absurd (omega arith)
  stuck_from zero (suc bound) short m words accesses last after steps stuck =
      let here : HasNoStep (step program m) after = subst (λ (n : Machine). HasNoStep (step program n) after) steps.1
      stuck in
      move_stuck (run program bound) m.slot (step program m) words (subst (HasNoStep (step program m)) steps.2 here)
  stuck_from (suc count) (suc bound) short m words accesses last after steps stuck =
      move_goes (run program bound) m.slot (step program m) words steps.1 steps.2 steps.0 steps.4
      (stuck_from count bound (omega arith) steps.0 steps.1 steps.3 last after steps.5 stuck)

pub run_is_stuck : RunIsStuck
run_is_stuck program bound m words = (
  leads_to_no_step program bound m words,
  λ led. stuck_from program led.0.before bound led.1 m words led.0.accesses led.0.last led.0.after led.0.steps
      led.0.stuck,
)
