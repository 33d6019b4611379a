-- A run is a list of states.
use Rattle.std.proofs.Common.{◌≡◌, ℕ, zero, suc, ◌≤◌, List, [], ◌∷◌, Option, Some, None, refl, sym, ◌∙◌, ap, subst}
use Rattle.std.{proofs.Common.{arith}, specs.Prelude.{slice_get}}
use Rattle.array_maps.specs.Accesses.{Access, words_after}
use Rattle.bpf_insn_types.specs.Program.{Program}
use Rattle.bpf_step_model.{specs.State.{Machine}, proofs.Endings.{mapped_from, ended_same}}
use Rattle.bpf_step_model.specs.Step.{Request, StepOutcome, NoStep, Next, Asks, Loops, Refuses, Exits, step}
use Rattle.bpf_step_model.specs.Run.{BoundedResult, Ended, StopReason, Exit, Loop, Refused, RunSegment, after_request}
use Rattle.bpf_step_model.specs.Run.{mapped, with_first_step, ended_by, after_access, after_step, run}
use Rattle.bpf_step_model.specs.Steps.{access_of, GoesOn, EndsBy, Steps, IsListOfStates, RunIsListOfStates}

module _ (program : Program) where
  -- what is claimed of a run that ended
  abbrev pub IsListed : ℕ → Machine → List ℕ → RunSegment → Type 0
  IsListed bound m words s = (s.steps ≤ bound) × IsListOfStates program m words s

  -- the first instruction ends the run
  ended_listed : (bound : ℕ) (m : Machine) (words : List ℕ) (turn : StopReason) → EndsBy m.slot (step program m) turn →
      IsListed (suc bound) m words (record { turn = turn; steps = 1; accesses = []; words = words })
  ended_listed bound m words turn ends =
      (omega arith, record { before = 0; last = m; length = refl; steps = (refl, refl, refl); ends = ends })

  -- the first instruction goes on
  more_listed : (bound : ℕ) (m next : Machine) (words between : List ℕ) (first : List Access) (s : RunSegment)
      → GoesOn (step program m) words first next between →
      IsListed bound next between s →
      IsListed (suc bound) m words (with_first_step first s)
  more_listed bound m next words between first s goes listed =
      let states = listed.1 in (
        (let short = listed.0 in omega arith),
        record {
          before = suc states.before;
          last = states.last;
          length = ap suc states.length;
          steps = (next, between, first, s.accesses, goes, states.steps, refl);
          ends = states.ends;
        },
      )

  -- a run ends as a list of states does
  abbrev pub Lists : ℕ → Type 0
  Lists bound = (m : Machine) (words : List ℕ) (s : RunSegment) → run program bound m words ≡ Ended s
      → IsListed bound m words s

  by_access : (bound : ℕ) → Lists bound → (m next : Machine) (element : ℕ) (request : Request)
      → step program m ≡ Asks element request next →
      (words : List ℕ) (s : RunSegment) (o : Option ℕ) → slice_get words element ≡ o
      → after_access (run program bound) element request next words o ≡ Ended s →
      IsListed (suc bound) m words s
  by_access bound lists m next element request moves words s None there h = absurd (cc)
  by_access bound lists m next element request moves words s (Some word) there h =
      let access : Access = access_of element request word in
      let before = mapped_from (with_first_step (access ∷ [])) (run program bound (after_request request word next)
      (words_after access words)) s h in
      let goes : GoesOn (step program m) words (access ∷ []) (after_request request word next)
      (words_after access words) =
      subst (λ (move : StepOutcome). GoesOn move words (access ∷ []) (after_request request word next)
      (words_after access words)) (sym moves) (word, there, refl, refl, refl) in
      subst (λ (t : RunSegment). IsListed (suc bound) m words t) (sym before.2)
      (more_listed bound m (after_request request word next) words (words_after access words) (access ∷ []) before.0
      goes
      (lists (after_request request word next) (words_after access words) before.0 before.1))

  by_move : (bound : ℕ) → Lists bound → (m : Machine) (words : List ℕ) (s : RunSegment) (move : StepOutcome)
      → step program m ≡ move →
      after_step (run program bound) m.slot move words ≡ Ended s → IsListed (suc bound) m words s
  by_move bound lists m words s NoStep moves h = absurd (cc)
  by_move bound lists m words s (Next next) moves h =
      let before = mapped_from (with_first_step []) (run program bound next words) s h in
      let goes : GoesOn (step program m) words [] next words =
      subst (λ (move : StepOutcome). GoesOn move words [] next words) (sym moves) (refl, refl, refl) in
      subst (λ (t : RunSegment). IsListed (suc bound) m words t) (sym before.2)
      (more_listed bound m next words words [] before.0 goes (lists next words before.0 before.1))
  by_move bound lists m words s (Asks element request next) moves h = by_access bound lists m next element request moves
      words s (slice_get words element) refl h
  by_move bound lists m words s (Loops call next) moves h =
      let ends : EndsBy m.slot (step program m) (Loop call next) =
      subst (λ (move : StepOutcome). EndsBy m.slot move (Loop call next)) (sym moves) refl in
      subst (IsListed (suc bound) m words) (ended_same _ s h) (ended_listed bound m words (Loop call next) ends)
  by_move bound lists m words s (Refuses call next) moves h =
      let ends : EndsBy m.slot (step program m) (Refused m.slot call next) =
      subst (λ (move : StepOutcome). EndsBy m.slot move (Refused m.slot call next)) (sym moves) refl in
      subst (IsListed (suc bound) m words) (ended_same _ s h) (ended_listed bound m words (Refused m.slot call next)
      ends)
  by_move bound lists m words s (Exits ret) moves h =
      let ends : EndsBy m.slot (step program m) (Exit ret) =
      subst (λ (move : StepOutcome). EndsBy m.slot move (Exit ret)) (sym moves) refl in
      subst (IsListed (suc bound) m words) (ended_same _ s h) (ended_listed bound m words (Exit ret) ends)

  pub lists_states : (bound : ℕ) → Lists bound
  lists_states zero m words s h = absurd (cc)
  lists_states (suc bound) m words s h = by_move bound (lists_states bound) m words s (step program m) refl h

  -- the other way: an instruction that ends, and one that goes on
  run_ends : (go_on : Machine → List ℕ → BoundedResult RunSegment) (slot : ℕ) (move : StepOutcome) (words : List ℕ)
      (turn : StopReason) → EndsBy slot move turn →
      after_step go_on slot move words ≡ ended_by turn words
  run_ends go_on slot NoStep words turn h = absurd h
  run_ends go_on slot (Next next) words turn h = absurd h
  run_ends go_on slot (Asks element request next) words turn h = absurd h
  run_ends go_on slot (Loops call next) words turn h = ap (λ t. ended_by t words) (sym h)
  run_ends go_on slot (Refuses call next) words turn h = ap (λ t. ended_by t words) (sym h)
  run_ends go_on slot (Exits ret) words turn h = ap (λ t. ended_by t words) (sym h)

  run_goes : (go_on : Machine → List ℕ → BoundedResult RunSegment) (slot : ℕ) (move : StepOutcome)
      (words between : List ℕ) (first : List Access) (next : Machine) (s : RunSegment) →
      GoesOn move words first next between → go_on next between ≡ Ended s → after_step go_on slot move words
      ≡ Ended (with_first_step first s)
  run_goes go_on slot NoStep words between first next s goes h = absurd goes
  run_goes go_on slot (Next m) words between first next s goes h =
      let same : go_on m words ≡ Ended s = subst (λ (n : Machine). go_on n words ≡ Ended s) goes.1
      (subst (λ (ws : List ℕ). go_on next ws ≡ Ended s) goes.2 h) in
      subst (λ (made : List Access). mapped (with_first_step []) (go_on m words) ≡ Ended (with_first_step made s))
      (sym goes.0) (ap (mapped (with_first_step [])) same)
  run_goes go_on slot (Asks element request m) words between first next s goes h =
      let word : ℕ = goes.0 in
      let access : Access = access_of element request word in
      let same : go_on (after_request request word m) (words_after access words) ≡ Ended s =
      subst (λ (n : Machine). go_on n (words_after access words) ≡ Ended s) goes.3
      (subst (λ (ws : List ℕ). go_on next ws ≡ Ended s) goes.4 h) in
      subst (λ (made : List Access). after_access go_on element request m words (slice_get words element)
      ≡ Ended (with_first_step made s)) (sym goes.2)
      (subst (λ (o : Option ℕ). after_access go_on element request m words o ≡ Ended (with_first_step (access ∷ []) s))
      (sym goes.1) (ap (mapped (with_first_step (access ∷ []))) same))
  run_goes go_on slot (Loops call m) words between first next s goes h = absurd goes
  run_goes go_on slot (Refuses call m) words between first next s goes h = absurd goes
  run_goes go_on slot (Exits ret) words between first next s goes h = absurd goes

  -- the stretch of a list of states
  abbrev pub listed_stretch : ℕ → List Access → List ℕ → StopReason → RunSegment
  listed_stretch count accesses after turn = record {
    turn = turn;
    steps = suc count;
    accesses = accesses;
    words = after;
  }

  pub runs_states : (count bound : ℕ) → suc count ≤ bound → (m : Machine) (words : List ℕ) (accesses : List Access)
      (last : Machine) (after : List ℕ) (turn : StopReason) →
      Steps program count m words accesses last after → EndsBy last.slot (step program last) turn →
      run program bound m words ≡ Ended (listed_stretch count accesses after turn)
  runs_states count zero short m words accesses last after turn steps ends = absurd (omega arith)
  runs_states zero (suc bound) short m words accesses last after turn steps ends =
      let ends_here : EndsBy m.slot (step program m) turn = subst (λ (n : Machine). EndsBy n.slot (step program n) turn)
      steps.1 ends in
      run_ends (run program bound) m.slot (step program m) words turn ends_here
      ∙ ap (λ made. Ended (listed_stretch 0 made words turn)) (sym steps.0)
      ∙ ap (λ ws. Ended (listed_stretch 0 accesses ws turn)) (sym steps.2)
  runs_states (suc count) (suc bound) short m words accesses last after turn steps ends =
      run_goes (run program bound) m.slot (step program m) words steps.1 steps.2 steps.0
      (listed_stretch count steps.3 after turn) steps.4
      (runs_states count bound (omega arith) steps.0 steps.1 steps.3 last after turn steps.5 ends)
      ∙ ap (λ made. Ended (listed_stretch (suc count) made after turn)) (sym steps.6)

  pub states_run : (bound : ℕ) (m : Machine) (words : List ℕ) (s : RunSegment) → IsListed bound m words s
      → run program bound m words ≡ Ended s
  states_run bound m words s listed =
      let states = listed.1 in
      runs_states states.before bound (subst (λ (n : ℕ). n ≤ bound) states.length listed.0) m words s.accesses
      states.last s.words s.turn states.steps states.ends
      ∙ ap (λ n. Ended (record { turn = s.turn; steps = n; accesses = s.accesses; words = s.words }))
      (sym states.length)

pub run_is_list_of_states : RunIsListOfStates
run_is_list_of_states program bound m words s =
    (lists_states program bound m words s, states_run program bound m words s)
