-- A list of events, one after another.
use Rattle.std.proofs.Common.{◌≡◌, ℕ, suc, ◌+◌, Bool, List, [], ◌∷◌, ◌++◌, length, take, drop, Some}
use Rattle.std.{proofs.Common.{Ok, Err, Result, refl, sym, ◌∙◌, ap, arith}, specs.Prelude.{if◌then◌else◌}}
use Rattle.std.specs.Prelude.{slice_get, slice_index_or}
use Rattle.std.proofs.{Math.Seq.{take-length, drop-cons}, lemmas.Option.{slice_get_within, get_or_from_slice_get}}
use Rattle.std.proofs.lemmas.List.{length-take-le, take_more, take-append-drop}
use Rattle.loop_core_model.specs.declared.{event.Event.{Event}, replay_fault.ReplayFault.{ReplayFault}}
use Rattle.loop_core_model.specs.{declared.replay_fault.ReplayFault.TheVariants.{NotEnded}, Schedule.{if_ended, replay}}
use Rattle.loop_core_model.specs.Schedule.{ScheduleState, at_first, after_event, after_events, and_then, has_ended}

-- the events before this place lead to this state
abbrev pub LeadTo : (ℕ → Bool) → List ℕ → List Event → (place : ℕ) → ScheduleState → Type 0
LeadTo breaks bounds events place state = after_events breaks bounds (take place events) 0 at_first ≡ Ok state

module _ (breaks : ℕ → Bool) (bounds : List ℕ) where
  -- events, and others from a place on
  after_more : (first more : List Event) (place there : ℕ) (start : ScheduleState) → there ≡ place + length first →
      after_events breaks bounds (first ++ more) place start
      ≡ and_then (after_events breaks bounds more there) (after_events breaks bounds first place start)
  after_more [] more place there start so = let here : there ≡ place = omega arith in rw here refl
  after_more (e ∷ first) more place there start so =
      go (after_event breaks bounds e place start)
      (λ next. after_more first more (place + 1) there next (omega arith))
    where
      go : (r : Result ScheduleState ReplayFault) →
          ((next : ScheduleState) → after_events breaks bounds (first ++ more) (place + 1) next
          ≡ and_then (after_events breaks bounds more there) (after_events breaks bounds first (place + 1) next)) →
          and_then (after_events breaks bounds (first ++ more) (place + 1)) r
          ≡ and_then (after_events breaks bounds more there) (and_then (after_events breaks bounds first (place + 1)) r)
      go (Err fault) later = refl
      go (Ok next) later = later next

  -- those before a place, the one there, and others
  from_there : (events more : List Event) (place : ℕ) (e : Event) (old : ScheduleState)
      → slice_get events place ≡ Some e → LeadTo breaks bounds events place old →
      after_events breaks bounds (take place events ++ slice_index_or events place e ∷ more) 0 at_first
      ≡ and_then (after_events breaks bounds more (place + 1)) (after_event breaks bounds e place old)
  from_there events more place e old there led =
      let within = slice_get_within events place e there in
      let long : length (take place events) ≡ place = length-take-le place events (omega arith) in
      after_more (take place events) (slice_index_or events place e ∷ more) 0 place at_first (omega arith)
      ∙ ap (and_then (after_events breaks bounds (slice_index_or events place e ∷ more) place)) led
      ∙ ap (λ (x : Event). and_then (after_events breaks bounds more (place + 1))
      (after_event breaks bounds x place old)) (get_or_from_slice_get events place e e there)

  -- one event more leads on
  pub next : (events : List Event) (place : ℕ) (e : Event) (old new : ScheduleState) → slice_get events place ≡ Some e
      → LeadTo breaks bounds events place old → after_event breaks bounds e place old ≡ Ok new
      → LeadTo breaks bounds events (place + 1) new
  next events place e old new there led h =
      ap (λ (xs : List Event). after_events breaks bounds xs 0 at_first)
      (take_more events place e (slice_get_within events place e there))
      ∙ from_there events [] place e old there led ∙ ap (and_then (after_events breaks bounds [] (place + 1))) h

  -- or has the list's fault
  pub faulty : (events : List Event) (place : ℕ) (e : Event) (old : ScheduleState) (fault : ReplayFault)
      → slice_get events place ≡ Some e → LeadTo breaks bounds events place old
      → after_event breaks bounds e place old ≡ Err fault → replay breaks bounds events ≡ Err fault
  faulty events place e old fault there led h =
      let more : List Event = drop (suc place) events in
      let all : after_events breaks bounds events 0 at_first ≡ Err fault =
      ap (λ (xs : List Event). after_events breaks bounds xs 0 at_first) (sym (take-append-drop place events)
      ∙ ap (λ (xs : List Event). take place events ++ xs)
      (drop-cons events place e (slice_get_within events place e there)))
      ∙ from_there events more place e old there led ∙ ap (and_then (after_events breaks bounds more (place + 1))) h in
      ap (and_then (if_ended events)) all

  -- where there is none more the list has ended or not
  pub all_ended : (events : List Event) (state : ScheduleState) (ended : Bool) → has_ended events state ≡ ended
      → after_events breaks bounds (take (length events) events) 0 at_first ≡ Ok state →
      replay breaks bounds events ≡ (if ended then Ok state else Err (NotEnded (length events)))
  all_ended events state ended e h =
      let all : after_events breaks bounds events 0 at_first ≡ Ok state = rw (take-length events) at h in
      rw (all, e) refl
