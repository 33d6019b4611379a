-- A run as a list of states, each the step of the one before.
use Rattle.std.specs.Prelude.{◌≡◌, ℕ, zero, suc, ◌<◌, ◌≤◌, ◌↔◌, List, [], ◌∷◌, ◌++◌, slice_get, Some, None}
use Rattle.array_maps.specs.Accesses.{Access, words_after}
use Rattle.bpf_insn_types.specs.Program.{Program}
use Rattle.bpf_step_model.specs.{State.{Machine}, Run.{after_request, run}}
use Rattle.bpf_step_model.specs.Step.{Request, StepOutcome, NoStep, Next, Asks, Loops, Refuses, Exits, step}
use Rattle.bpf_step_model.specs.Run.{Ended, Stuck, StopReason, Exit, Loop, Refused, RunSegment, action_of}

-- the access that a request is, by the word there
abbrev pub access_of : ℕ → Request → ℕ → Access
access_of element request word = record { element = element; action = action_of request word }

-- an instruction goes on to another machine and to other words, with at most one access
abbrev pub GoesOn : StepOutcome → List ℕ → List Access → Machine → List ℕ → Type 0
GoesOn (Next m) words accesses next after = (accesses ≡ []) × (next ≡ m) × (after ≡ words)
GoesOn (Asks element request m) words accesses next after =
    (word : ℕ) × (slice_get words element ≡ Some word) × (accesses ≡ access_of element request word ∷ [])
    × (next ≡ after_request request word m)
    × (after ≡ words_after (access_of element request word) words)
GoesOn NoStep words accesses next after = ⊥
GoesOn (Loops call m) words accesses next after = ⊥
GoesOn (Refuses call m) words accesses next after = ⊥
GoesOn (Exits ret) words accesses next after = ⊥

-- an instruction at this slot ends the run
abbrev pub EndsBy : ℕ → StepOutcome → StopReason → Type 0
EndsBy slot (Exits ret) turn = turn ≡ Exit ret
EndsBy slot (Loops call next) turn = turn ≡ Loop call next
EndsBy slot (Refuses call next) turn = turn ≡ Refused slot call next
EndsBy slot NoStep turn = ⊥
EndsBy slot (Next next) turn = ⊥
EndsBy slot (Asks element request next) turn = ⊥

-- n steps lead from a state to another, with these accesses in order
abbrev pub Steps : Program → ℕ → Machine → List ℕ → List Access → Machine → List ℕ → Type 0
Steps program zero m words accesses last after = (accesses ≡ []) × (last ≡ m) × (after ≡ words)
Steps program (suc count) m words accesses last after =
    (next : Machine) × (between : List ℕ) × (first : List Access) × (rest : List Access)
    × GoesOn (step program m) words first next between
    × Steps program count next between rest last after × (accesses ≡ first ++ rest)

-- the states of a stretch: steps to a last state, whose instruction ends it; the length counts that instruction too
pub record IsListOfStates (program : Program) (m : Machine) (words : List ℕ) (s : RunSegment) : Type 0 where
  pub before : ℕ
  pub last : Machine
  pub length : s.steps ≡ suc before
  pub steps : Steps program before m words s.accesses last s.words
  pub ends : EndsBy last.slot (step program last) s.turn

-- a run within its bound is such a list of states, and each such list is a run
abbrev pub RunIsListOfStates : Type 0
RunIsListOfStates = (program : Program) (bound : ℕ) (m : Machine) (words : List ℕ) (s : RunSegment) →
    (run program bound m words ≡ Ended s) ↔ ((s.steps ≤ bound) × IsListOfStates program m words s)

-- an instruction has no step over these words: none at all, or an access of an element that they don't have
abbrev pub HasNoStep : StepOutcome → List ℕ → Type 0
HasNoStep NoStep words = Unit {0}
HasNoStep (Asks element request next) words = slice_get words element ≡ None
HasNoStep (Next next) words = ⊥
HasNoStep (Loops call next) words = ⊥
HasNoStep (Refuses call next) words = ⊥
HasNoStep (Exits ret) words = ⊥

-- steps lead to a state that has no step
pub record LeadsToNoStep (program : Program) (m : Machine) (words : List ℕ) : Type 0 where
  pub before : ℕ
  pub accesses : List Access
  pub last : Machine
  pub after : List ℕ
  pub steps : Steps program before m words accesses last after
  pub stuck : HasNoStep (step program last) after

-- a run is stuck exactly where fewer steps than its bound lead to a state that has none
abbrev pub RunIsStuck : Type 0
RunIsStuck = (program : Program) (bound : ℕ) (m : Machine) (words : List ℕ) →
    (run program bound m words ≡ Stuck) ↔ ((states : LeadsToNoStep program m words) × (states.before < bound))
