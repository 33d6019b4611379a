-- What an event makes of a worker.
use Rattle.std.specs.Prelude.{◌≡◌, ℕ, ◌<◌, ◌≤◌, Bool, List, ◌++◌, IfSome, Some, None}
use Rattle.std.specs.Option.{option_to_list}
use Rattle.loop_core_model.specs.{declared.event.EventKind.{EventKind}, Intervals.{blocks_of}}
use Rattle.loop_core_model.specs.{Events.{Moved, becomes, transition}, declared.event.EventKind.TheVariants.{Turn}}
use Rattle.loop_core_replay.specs.declared.worker.{Worker.{Worker, TheVariants.{Running}}, Shared.{Shared}}
use Rattle.loop_core_replay.specs.declared.moves.WorkerTransition.{WorkerTransition}
use Rattle.loop_core_replay.specs.Standing.{schedule_worker, shared_of, WorkerFits}

-- what a worker and what it shares become, where these blocks were run before
abbrev pub transition_result : WorkerTransition → List ℕ → Moved
transition_result move runs = becomes (schedule_worker move.worker) (shared_of move.shared (option_to_list move.ran
    ++ runs))

-- it is a worker of this split, and what its workers share; a block that was run with it is one of the split's
pub record TransitionFits (bounds : List ℕ) (move : WorkerTransition) : Type 0 where
  pub next : move.shared.next ≤ blocks_of bounds
  pub worker : WorkerFits bounds move.worker
  pub ran : IfSome move.ran (λ block. block < blocks_of bounds)

-- where the event is a worker's turn, its iteration breaks or not
abbrev pub TurnIs : (ℕ → Bool) → EventKind → Worker → Bool → Type 0
TurnIs breaks Turn (Running block index) broke = breaks index ≡ broke
TurnIs breaks kind worker broke = Unit {0}

-- the event is enabled: whichever other iterations break, it moves the worker so
pub record IsTransition (bounds : List ℕ) (kind : EventKind) (worker : Worker) (shared : Shared) (broke : Bool)
    (move : WorkerTransition) : Type 0 where
  pub fits : TransitionFits bounds move
  pub moves : (breaks : ℕ → Bool) (runs : List ℕ) → TurnIs breaks kind worker broke → transition breaks bounds kind
      (schedule_worker worker) (shared_of shared runs) ≡ Some (transition_result move runs)

-- the event isn't enabled, whatever breaks
abbrev pub IsNeverEnabled : List ℕ → EventKind → Worker → Shared → Type 0
IsNeverEnabled bounds kind worker shared =
    (breaks : ℕ → Bool) (runs : List ℕ) → transition breaks bounds kind (schedule_worker worker) (shared_of shared runs)
    ≡ None
