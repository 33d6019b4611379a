-- What comes of an event, whichever iterations break and whichever blocks were run before.
use Rattle.std.specs.Prelude.{◌≡◌, ℕ, Bool, List, ◌++◌, slice_index_or, Option, Ok, Err}
use Rattle.std.specs.Option.{option_to_list}
use Rattle.loop_core_model.specs.declared.{event.Event.{Event}, replay_fault.ReplayFault.{ReplayFault}}
use Rattle.loop_core_model.specs.Schedule.{after_event}
use Rattle.loop_core_replay.specs.{Standing.{Standing, state}, Moves.{TurnIs}}
use Rattle.loop_core_replay.specs.declared.worker.Worker.TheVariants.{Idle}

-- the event at this place of a list, by which an iteration breaks or not, leads from one state to another, and this
-- block was run with it or none
abbrev pub LeadsTo : List ℕ → Event → (place : ℕ) → (broke : Bool) → (old new : Standing) → (ran : Option ℕ) → Type 0
LeadsTo bounds e place broke old new ran =
    (breaks : ℕ → Bool) (runs : List ℕ) → TurnIs breaks e.kind (slice_index_or old.workers e.worker Idle) broke →
    after_event breaks bounds e place (state old runs) ≡ Ok (state new (option_to_list ran ++ runs))

-- it has this fault
abbrev pub Faults : List ℕ → Event → (place : ℕ) → Standing → ReplayFault → Type 0
Faults bounds e place old fault = (breaks : ℕ → Bool) (runs : List ℕ)
    → after_event breaks bounds e place (state old runs) ≡ Err fault
