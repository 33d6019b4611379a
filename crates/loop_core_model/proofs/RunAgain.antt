-- A run knows the maps by what it sees alone: over other words where each of its accesses sees the same, it is the
-- same.
use Rattle.std.proofs.Common.{◌≡◌, ℕ, zero, suc, ◌<◌, List, [], ◌∷◌, length, Option, Some, None}
use Rattle.std.{proofs.Common.{inl, inr, refl, sym, ◌∙◌, ap, subst}, specs.Prelude.{slice_get, slice_index, ◌==◌}}
use Rattle.std.proofs.lemmas.Bool.{cases_Bool, eqb-true, eq-eqb}
use Rattle.std.proofs.lemmas.Option.{slice_get_within, slice_get-get_or, get_or_from_slice_get}
use Rattle.array_maps.specs.Accesses.{Access, Saw, SawEach, actions_at, words_after, words_after_all}
use Rattle.array_maps.proofs.ElementLaws.{length-words_after, element_after_all}
use Rattle.bpf_insn_types.specs.Program.{Program}
use Rattle.bpf_step_model.specs.{State.{Machine, LoopCall, callback_entry}, Step.{step}}
use Rattle.bpf_step_model.specs.Step.{Request, Load, Store, StoreHalf, Update, Fetch, StepOutcome, NoStep, Next, Asks}
use Rattle.bpf_step_model.specs.Run.{BoundedResult, Ended, Stuck, Unfinished, StopReason, Exit}
use Rattle.bpf_step_model.specs.Run.{RunSegment, action_of, after_request, mapped, followed, with_first_step}
use Rattle.bpf_step_model.{specs.Run.{after_access, after_step, run}, proofs.Endings.{ended_same}}
use Rattle.bpf_step_model.specs.Iteration.{Iterated, exited_by, exited, iteration}
use Rattle.loop_core_model.proofs.Turns.{Saws}

-- the first access saw the word of its element
saws_head : (access : Access) (accesses : List Access) (words : List ℕ) → access.element < length words
    → Saws (access ∷ accesses) words →
    Saw access.action (slice_index words access.element)
saws_head access accesses words inside saws =
    (rw (eq-eqb access.element access.element refl) at (saws access.element inside)).0

-- the others saw what was there after it
saws_tail : (access : Access) (accesses : List Access) (words : List ℕ) → Saws (access ∷ accesses) words
    → Saws accesses (words_after access words)
saws_tail access accesses words saws e inside =
    let within : e < length words = subst (λ (n : ℕ). e < n) (length-words_after access words) inside in
    let saw = saws e within in
    subst (SawEach (actions_at e accesses)) (sym (element_after_all (access ∷ []) words e within))
    (elim (cases_Bool (access.element == e)) [
      | inl here ↦ rw here (rw here at saw).1
      | inr other ↦ rw other (rw other at saw)
    ])

-- and the other way round
saws_cons : (access : Access) (accesses : List Access) (words : List ℕ)
    → Saw access.action (slice_index words access.element) →
    Saws accesses (words_after access words) → Saws (access ∷ accesses) words
saws_cons access accesses words saw saws e inside =
    let within : e < length (words_after access words) =
    subst (λ (n : ℕ). e < n) (sym (length-words_after access words)) inside in
    let later = subst (SawEach (actions_at e accesses)) (element_after_all (access ∷ []) words e inside)
    (saws e within) in
    elim (cases_Bool (access.element == e)) [
      | inl same ↦ rw same (
        subst (λ (k : ℕ). Saw access.action (slice_index words k)) (eqb-true access.element e same)
            saw,
        rw same at later,
      )
      | inr other ↦ rw other (rw other at later)
    ]

-- a request at a word saw that word
action_saw : (request : Request) (word : ℕ) → Saw (action_of request word) word
action_saw (Load part extension into) word = refl
action_saw (Store value) word = tt
action_saw (StoreHalf half value) word = refl
action_saw (Update op operand) word = tt
action_saw (Fetch part rmw value compare into) word = refl

-- a request that would have seen another word too does the same there, and leads to the same
same_request : (request : Request) (word other : ℕ) (m : Machine) → Saw (action_of request word) other
    → (action_of request other ≡ action_of request word)
    × (after_request request other m ≡ after_request request word m)
same_request (Load part extension into) word other m saw = rw saw (refl, refl)
same_request (Store value) word other m saw = (refl, refl)
same_request (StoreHalf half value) word other m saw = rw saw (refl, refl)
same_request (Update op operand) word other m saw = (refl, refl)
same_request (Fetch part rmw value compare into) word other m saw = rw saw (refl, refl)

-- a stretch over other words
abbrev pub over : List ℕ → RunSegment → RunSegment
over words s = record {
  turn = s.turn;
  steps = s.steps;
  accesses = s.accesses;
  words = words_after_all s.accesses words;
}

-- what is claimed of a run on some words: it saw them; and over other words, which its accesses saw too, it is the same
abbrev pub Local : (again : List ℕ → BoundedResult RunSegment) (words : List ℕ) → BoundedResult RunSegment → Type 0
Local again words Stuck = Unit {0}
Local again words Unfinished = Unit {0}
Local again words (Ended s) = Saws s.accesses words
    × ((others : List ℕ) → length others ≡ length words → Saws s.accesses others → again others ≡ Ended (over others s))

-- the access that a request makes
abbrev pub access_by : ℕ → Request → ℕ → Access
access_by element request word = record { element = element; action = action_of request word }

module _ (go_on : Machine → List ℕ → BoundedResult RunSegment)
    (local : (m : Machine) (words : List ℕ) → Local (go_on m) words (go_on m words)) where
  next_local : (again : List ℕ → BoundedResult RunSegment) (words : List ℕ) (e : BoundedResult RunSegment)
      → Local again words e
      → Local (λ others. mapped (with_first_step []) (again others)) words (mapped (with_first_step []) e)
  next_local again words Stuck h = tt
  next_local again words Unfinished h = tt
  next_local again words (Ended s) h = (
    h.0,
    λ others same saws. ap (mapped (with_first_step [])) (h.1 others same saws),
  )

  access_local : (element : ℕ) (request : Request) (next : Machine) (words : List ℕ) (word : ℕ)
      → slice_get words element ≡ Some word → (e : BoundedResult RunSegment)
      → Local (go_on (after_request request word next)) (words_after (access_by element request word) words) e
      → Local (λ others. after_access go_on element request next others (slice_get others element)) words
      (mapped (with_first_step (access_by element request word ∷ [])) e)
  access_local element request next words word there Stuck h = tt
  access_local element request next words word there Unfinished h = tt
  access_local element request next words word there (Ended s) h = (
    saws_cons access s.accesses words
        (rw (get_or_from_slice_get words element word 0 there) (action_saw request word)) h.0,
    λ others same saws.
        let inside : element < length others =
        rw same (slice_get_within words element word there) in
        let told = same_request request word (slice_index others element) next
        (saws_head access s.accesses others inside saws) in
        let long : length (words_after access others) ≡ length (words_after access words) =
        length-words_after access others ∙ same ∙ sym (length-words_after access words) in
        rw (slice_get-get_or others element 0 inside, told.0, told.1) (ap (mapped (with_first_step (access ∷ [])))
        (h.1 (words_after access others) long (saws_tail access s.accesses others saws))),
  )
    where
      access : Access
      access = access_by element request word

  asked_local : (element : ℕ) (request : Request) (next : Machine) (words : List ℕ) (o : Option ℕ)
      → slice_get words element ≡ o
      → Local (λ others. after_access go_on element request next others (slice_get others element)) words
      (after_access go_on element request next words o)
  asked_local element request next words None there = tt
  asked_local element request next words (Some word) there =
      access_local element request next words word there _ (local (after_request request word next) _)

  move_local : (slot : ℕ) (move : StepOutcome) (words : List ℕ)
      → Local (after_step go_on slot move) words (after_step go_on slot move words)
  move_local slot NoStep words = tt
  move_local slot (Next next) words = next_local (go_on next) words (go_on next words) (local next words)
  move_local slot (Asks element request next) words =
      asked_local element request next words (slice_get words element) refl
  move_local slot move words = (λ e inside. tt, λ others same saws. refl)

-- every run is so
pub run_local : (program : Program) (bound : ℕ) (m : Machine) (words : List ℕ)
    → Local (run program bound m) words (run program bound m words)
run_local program zero m words = tt
run_local program (suc bound) m words = move_local (run program bound) (run_local program bound) m.slot
    (step program m) words

-- and so is every iteration
pub record IterationIsLocal (program : Program) (bound : ℕ) (call : LoopCall) (index : ℕ) : Type 0 where
  pub saw : (words : List ℕ) (it : Iterated) → iteration program bound call index words ≡ Ended it
      → Saws it.accesses words
  pub again : (words others : List ℕ) (it : Iterated) → iteration program bound call index words ≡ Ended it
      → length others ≡ length words →
      Saws it.accesses others →
      iteration program bound call index others ≡ Ended (record {
        ret = it.ret;
        steps = it.steps;
        accesses = it.accesses;
        words = words_after_all it.accesses others;
      })

-- what is claimed of an iteration whose run is so
abbrev pub LocalIteration : (again : List ℕ → BoundedResult RunSegment) (words : List ℕ) → Iterated → Type 0
LocalIteration again words it = Saws it.accesses words
    × ((others : List ℕ) → length others ≡ length words → Saws it.accesses others
    → followed exited (again others) ≡ Ended (record {
      ret = it.ret;
      steps = it.steps;
      accesses = it.accesses;
      words = words_after_all it.accesses others;
    }))

exit_local : (again : List ℕ → BoundedResult RunSegment) (words : List ℕ) (e : BoundedResult RunSegment) (it : Iterated)
    → Local again words e → followed exited e ≡ Ended it → LocalIteration again words it
exit_local again words Stuck it h ended = absurd (cc)
exit_local again words Unfinished it h ended = absurd (cc)
exit_local again words (Ended s) it h ended = by_turn s.turn refl ended
  where
    by_turn : (turn : StopReason) → s.turn ≡ turn → exited_by turn s ≡ Ended it → LocalIteration again words it
    by_turn (Exit ret) turns ended =
        subst (LocalIteration again words) (ended_same _ it ended) (
          h.0,
          λ others same saws. ap (followed exited) (h.1 others same saws)
              ∙ ap (λ turn. exited_by turn (over others s)) turns,
        )
    by_turn _ turns ended = absurd (cc)

pub iteration_local : (program : Program) (bound : ℕ) (call : LoopCall) (index : ℕ)
    → IterationIsLocal program bound call index
unfolding iteration
iteration_local program bound call index = record {
  saw = λ words it h. (at_exit words it h).0;
  again = λ words others it h. (at_exit words it h).1 others;
}
  where
    at_exit : (words : List ℕ) (it : Iterated)
        → followed exited (run program bound (callback_entry call index) words) ≡ Ended it
        → LocalIteration (run program bound (callback_entry call index)) words it
    at_exit words it h = exit_local (run program bound (callback_entry call index)) words _ it
        (run_local program bound (callback_entry call index) words) h
