-- Workers as a schedule's state.
use Rattle.std.proofs.Common.{◌≡◌, ℕ, ◌<◌, Bool, false, ◌⊎◌, inl, inr, List, ◌++◌, map, length}
use Rattle.std.proofs.{Common.{Some, Ok, refl, sym, ◌∙◌, ap, arith}, lemmas.Bool.{le-ltb, cases_eq}}
use Rattle.std.specs.{Prelude.{slice_index_or, slice_set, nat_lt}, Option.{option_to_list}}
use Rattle.std.proofs.{Math.ListN.{get_or-map}, lemmas.List.{get_or-set_same, get_or-set_other, map-set}}
use Rattle.loop_core_model.specs.{declared.event.Event.{Event}, Schedule.{if_enabled, after_event}}
use Rattle.loop_core_model.specs.Events as events
use Rattle.loop_core_replay.specs.declared.worker.{Worker.{Worker, TheVariants.{Idle}}, Shared.{Shared}}
use Rattle.loop_core_replay.specs.{declared.moves.WorkerTransition.{WorkerTransition}, Steps.{LeadsTo}}
use Rattle.loop_core_replay.specs.Standing.{schedule_worker, shared_of, Standing, state, WorkerFits, WorkersFit}
use Rattle.loop_core_replay.specs.Moves.{TransitionFits, transition_result, IsTransition}

pub seen_at : (workers : List Worker) (number : ℕ) → slice_index_or (map schedule_worker workers) number events.Idle
    ≡ schedule_worker (slice_index_or workers number Idle)
seen_at workers number = get_or-map schedule_worker workers number Idle

-- workers after one of them moved
abbrev pub after_transition : Standing → (number : ℕ) → WorkerTransition → Standing
after_transition standing number move =
    record { shared = move.shared; workers = slice_set standing.workers number move.worker }

-- they share the blocks of the split still
pub fits_after : (bounds : List ℕ) (standing : Standing) (number : ℕ) (move : WorkerTransition)
    → number < length standing.workers → WorkersFit bounds standing → TransitionFits bounds move →
    WorkersFit bounds (after_transition standing number move)
fits_after bounds standing number move there fits move_fits =
    record { next = move_fits.next; each = λ other. go other (cases_eq other number) }
  where
    go : (other : ℕ) → (other ≡ number) ⊎ (other ≡ number → ⊥)
        → WorkerFits bounds (slice_index_or (slice_set standing.workers number move.worker) other Idle)
    go other (inl same) = rw (same, get_or-set_same standing.workers number move.worker Idle there) move_fits.worker
    go other (inr apart) = rw (get_or-set_other standing.workers number other move.worker Idle apart) (fits.each other)

-- an event of one of the sixteen
pub event_at : (breaks : ℕ → Bool) (bounds : List ℕ) (e : Event) (place : ℕ) (standing : Standing) (runs : List ℕ)
    → e.worker < 16 →
    after_event breaks bounds e place (state standing runs)
    ≡ if_enabled place e.worker (state standing runs) (events.transition breaks bounds e.kind
    (schedule_worker (slice_index_or standing.workers e.worker Idle)) (shared_of standing.shared runs))
event_at breaks bounds e place standing runs h =
    let below : nat_lt 15 e.worker ≡ false = le-ltb 15 e.worker (omega arith) in
    rw (below, seen_at standing.workers e.worker) refl

-- the state after it
pub moved_at : (place number : ℕ) (standing : Standing) (runs : List ℕ) (move : WorkerTransition) →
    if_enabled place number (state standing runs) (Some (transition_result move runs))
    ≡ Ok (state (after_transition standing number move) (option_to_list move.ran ++ runs))
moved_at place number standing runs move =
    ap (λ (ws : List events.Worker). Ok (record {
      shared = shared_of move.shared (option_to_list move.ran ++ runs);
      workers = ws;
    })) (sym (map-set schedule_worker standing.workers number move.worker))

leads : (bounds : List ℕ) (e : Event) (place : ℕ) (broke : Bool) (old : Standing) (move : WorkerTransition)
    → e.worker < 16 → IsTransition bounds e.kind (slice_index_or old.workers e.worker Idle) old.shared broke move →
    LeadsTo bounds e place broke old (after_transition old e.worker move) move.ran
leads bounds e place broke old move h is = λ breaks runs so.
    event_at breaks bounds e place old runs h
    ∙ ap (if_enabled place e.worker (state old runs)) (is.moves breaks runs so) ∙ moved_at place e.worker old runs move

-- the same of workers that are seen as their fields
pub stepped : (bounds : List ℕ) (e : Event) (place : ℕ) (broke : Bool) (shared : Shared) (workers : List Worker)
    (number : ℕ) (old : Standing) (move : WorkerTransition) → record { shared = shared; workers = workers } ≡ old
    → number ≡ e.worker → number < 16 →
    IsTransition bounds e.kind (slice_index_or workers number Idle) shared broke move
    → LeadsTo bounds e place broke old (after_transition (record { shared = shared; workers = workers }) number move)
    move.ran
stepped bounds e place broke shared workers number old move same named below_16 is =
    rw (← same, named)
    (leads bounds e place broke (record { shared = shared; workers = workers }) move (omega arith) (rw named at is))
