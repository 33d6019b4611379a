-- Lists of events: which of them are schedules, and what the others' first fault is.
use Rattle.std.specs.Prelude.{ℕ, ◌+◌, ◌&&◌, nat_lt, Bool, true, false, if◌then◌else◌, List, [], ◌∷◌, length, replicate}
use Rattle.std.specs.{Prelude.{slice_index_or, slice_set, Option, Some, None, Result, Ok, Err}, List.{list_all}}
use Rattle.loop_core_model.specs.declared.{event.Event.{Event}, replay_fault.ReplayFault.{ReplayFault}}
use Rattle.loop_core_model.specs.Events.{Worker, Idle, Holding, Running, Posting, Drained, Stopped, Shared, Moved}
use Rattle.loop_core_model.specs.Events.{transition}
use Rattle.loop_core_model.specs.declared.replay_fault.ReplayFault.TheVariants as faults

-- what is shared, and what each of the workers 0 to 15 does
pub record ScheduleState : Type 0 where
  pub shared : Shared
  pub workers : List Worker

-- no block is taken, no break is posted, no worker has done anything
abbrev pub at_first : ScheduleState
at_first = record { shared = record { next = 0; least = None; runs = [] }; workers = replicate 16 Idle }

-- what a worker does
abbrev pub worker_of : ScheduleState → ℕ → Worker
worker_of state number = slice_index_or state.workers number Idle

-- the state after a worker's event, or the fault of one that isn't enabled at this place of the list
abbrev pub if_enabled : (place number : ℕ) → ScheduleState → Option Moved → Result ScheduleState ReplayFault
if_enabled place number state None = Err (faults.NotEnabled place)
if_enabled place number state (Some moved) =
    Ok (record { shared = moved.shared; workers = slice_set state.workers number moved.worker })

-- the state after an event, or its least fault: there is no such worker, or it isn't enabled
abbrev pub after_event : (ℕ → Bool) → List ℕ → Event → ℕ → ScheduleState → Result ScheduleState ReplayFault
after_event breaks bounds e place state =
    if nat_lt 15 e.worker then Err (faults.NoSuchWorker place)
    else if_enabled place e.worker state (transition breaks bounds e.kind (worker_of state e.worker) state.shared)

-- goes on from a state where there is one
abbrev pub and_then : (ScheduleState → Result ScheduleState ReplayFault) → Result ScheduleState ReplayFault
    → Result ScheduleState ReplayFault
and_then go_on (Err fault) = Err fault
and_then go_on (Ok state) = go_on state

-- the state after all events, where the first of them is at this place of the list; or the first fault
abbrev pub after_events : (ℕ → Bool) → List ℕ → List Event → ℕ → ScheduleState → Result ScheduleState ReplayFault
after_events breaks bounds [] place state = Ok state
after_events breaks bounds (e ∷ events) place state = and_then (after_events breaks bounds events (place + 1))
    (after_event breaks bounds e place state)

-- a worker has stopped
abbrev pub is_stopped : Worker → Bool
is_stopped Idle = false
is_stopped (Holding block) = false
is_stopped (Running block index) = false
is_stopped (Posting index) = false
is_stopped Drained = false
is_stopped Stopped = true

-- at least one worker is in the list, and each that does has stopped
abbrev pub has_ended : List Event → ScheduleState → Bool
has_ended events state = nat_lt 0 (length events) && list_all (λ (e : Event). is_stopped (worker_of state e.worker))
    events

-- the state, where the list has ended
abbrev pub if_ended : List Event → ScheduleState → Result ScheduleState ReplayFault
if_ended events state = if has_ended events state then Ok state else Err (faults.NotEnded (length events))

-- a list of events against a split: the state that it ends in, or its first fault
abbrev pub replay : (ℕ → Bool) → List ℕ → List Event → Result ScheduleState ReplayFault
replay breaks bounds events = and_then (if_ended events) (after_events breaks bounds events 0 at_first)
