-- Lists of events ask of a split's indices alone which of them break.
use Rattle.std.proofs.Common.{◌≡◌, ℕ, ◌+◌, ◌<◌, Bool, List, [], ◌∷◌, Option, Some, None, refl, ap, ◌∙◌, arith}
use Rattle.std.specs.Prelude.{◌==◌, nat_lt, Result, Ok, Err, if◌then◌else◌}
use Rattle.loop_core_model.specs.{Split.{split_fault}, declared.event.{Event.{Event}, EventKind.{EventKind}}}
use Rattle.loop_core_model.specs.declared.{event.EventKind.TheVariants.{Turn}, replay_fault.ReplayFault.{ReplayFault}}
use Rattle.loop_core_model.specs.{Intervals.{blocks_of, end_of}, Schedule.{after_events, if_ended, replay}}
use Rattle.loop_core_model.specs.Events.{Worker, Idle, Running, Posting, Shared, Moved, becomes, having_run, transition}
use Rattle.loop_core_model.specs.Schedule.{ScheduleState, at_first, worker_of, if_enabled, after_event, and_then}
use Rattle.loop_core_model.proofs.{SplitLaws.{faultless, rising}, Steps.{RunsFrom, Fits}}
use Rattle.loop_core_model.proofs.ScheduleLaws.{Sound, OneOk, event_ok, sound_at_first}
use Rattle.loop_core_model.specs.declared.replay_fault.ReplayFault.TheVariants as faults

module _ (n : ℕ) (bounds : List ℕ) (a b : ℕ → Bool) (fine : split_fault bounds n ≡ None) (same : (i : ℕ) → i < n
    → a i ≡ b i) where
  -- a worker's index is one of the loop's
  index_below : (block index : ℕ) → RunsFrom a bounds block index → index < n
  index_below block index from =
      let parts = faultless n bounds fine in
      let within = from.within in
      let several = parts.several in
      let up = rising 0 bounds parts.rises (block + 1) (blocks_of bounds) (omega arith) (omega arith) in
      let last = parts.last in
      let before = from.before_end in
      omega arith

  event_same : (kind : EventKind) (w : Worker) (shared : Shared) → Fits a bounds shared.next w
      → transition a bounds kind w shared ≡ transition b bounds kind w shared
  event_same Turn (Running block index) shared fits =
      ap (λ (broke : Bool). Some (if broke then having_run block (Posting index) shared
      else if index + 1 == end_of bounds block then having_run block Idle shared
      else becomes (Running block (index + 1)) shared)) (same index (index_below block index fits))
  event_same kind w shared fits = refl

  after_same : (e : Event) (place : ℕ) (state : ScheduleState) → Sound a bounds state
      → after_event a bounds e place state ≡ after_event b bounds e place state
  after_same e place state sound =
      ap (λ (o : Option Moved). if nat_lt 15 e.worker then Err (faults.NoSuchWorker place)
      else if_enabled place e.worker state o)
      (event_same e.kind (worker_of state e.worker) state.shared (sound.fits e.worker))

  after_all_same : (events : List Event) (place : ℕ) (state : ScheduleState) → Sound a bounds state
      → after_events a bounds events place state ≡ after_events b bounds events place state
  after_all_same [] place state sound = refl
  after_all_same (e ∷ events) place state sound =
      go (after_event a bounds e place state) (event_ok a bounds (faultless n bounds fine).rises e place state sound
      (nat_lt 15 e.worker) refl)
      (λ next ok. after_all_same events (place + 1) next ok)
      ∙ ap (and_then (after_events b bounds events (place + 1))) (after_same e place state sound)
    where
      go : (r : Result ScheduleState ReplayFault) → OneOk a bounds (faultless n bounds fine).rises e.worker state r →
          ((next : ScheduleState) → Sound a bounds next → after_events a bounds events (place + 1) next ≡ after_events b
          bounds events (place + 1) next) →
          and_then (after_events a bounds events (place + 1)) r ≡ and_then (after_events b bounds events (place + 1)) r
      go (Err fault) ok later = refl
      go (Ok next) ok later = later next ok.0

  pub same_replay : (events : List Event) → replay a bounds events ≡ replay b bounds events
  same_replay events = ap (and_then (if_ended events)) (after_all_same events 0 at_first
      (sound_at_first a bounds (faultless n bounds fine).rises))
