-- Every ended list of events leaves a complete list of blocks.
use Rattle.std.proofs.Common.{◌≡◌, ℕ, zero, suc, ◌+◌, ◌<◌, ◌≤◌, Bool, true, false, ◌⊎◌, inl, inr, List, [], ◌∷◌, Option}
use Rattle.std.{proofs.Common.{Some, None, refl, sym, ◌∙◌, ap, subst, arith}, specs.Prelude.{Err, if◌then◌else◌}}
use Rattle.std.specs.Prelude.{not, ◌==◌, nat_lt, map, length, replicate, slice_index_or, slice_set, Result, Ok}
use Rattle.std.{specs.List.{list_all, list_any}, proofs.lemmas.Bool.{or_cases}}
use Rattle.std.proofs.lemmas.Bool.{both_ways, ltb-false, eqb-true, eq-eqb, cases_eq, cases_Bool, and_parts, or_parts}
use Rattle.std.proofs.lemmas.List.{length-set, get_or-set_same, get_or-set_other}
use Rattle.bpf_insn_types.specs.Program.{Program}
use Rattle.bpf_step_model.specs.{State.{LoopCall}, Iteration.{iteration}}
use Rattle.loop_core_model.specs.{LeastBreak.{lesser}, Gather.{gather_fault}}
use Rattle.loop_core_model.{specs.{Split.{falls, split_fault}, Events.{transition}}, proofs.GatherLaws.{blocks_gather}}
use Rattle.loop_core_model.specs.Gather.{Block, starts_late, least_of, lacks_some, twice, stands_in}
use Rattle.loop_core_model.specs.declared.{event.Event.{Event}, replay_fault.ReplayFault.{ReplayFault}}
use Rattle.loop_core_model.{specs.{Intervals.{blocks_of, start_of}, Outcome.{breaks_at}}, proofs.SplitLaws.{faultless}}
use Rattle.loop_core_model.specs.Events.{Worker, Idle, Stopped, Shared, Moved}
use Rattle.loop_core_model.specs.Schedule.{ScheduleState, at_first, worker_of, if_enabled, after_event, and_then}
use Rattle.loop_core_model.specs.Schedule.{after_events, is_stopped, has_ended, if_ended}
use Rattle.loop_core_model.specs.ScheduleLaw.{AreRun, Complete, EndedSchedulesComplete}
use Rattle.loop_core_model.proofs.RunBlocks.{none_lacks, once_each, some_times, none_foreign, least_is_least}
use Rattle.loop_core_model.proofs.Least.{lesser_swap, lesser_none}
use Rattle.loop_core_model.proofs.Totals.{total, others, one_and_others, changed, none_of_all}
use Rattle.loop_core_model.proofs.Steps.{holds, times, to_post, least_break_of, Fits}
use Rattle.loop_core_model.proofs.Steps.{CountsTo, Kept, KeptIfEnabled, event_keeps}
use Rattle.loop_core_model.specs.declared.replay_fault.ReplayFault.TheVariants as faults

-- how often all workers have a block in hand, and what they have yet to post
abbrev pub held : ℕ → List Worker → ℕ
held k ws = total ℕ (λ a b. a + b) 0 (holds k) ws

abbrev pub unposted : List Worker → Option ℕ
unposted ws = total (Option ℕ) lesser None to_post ws

add_swap : (a b c : ℕ) → a + (b + c) ≡ b + (a + c)
add_swap a b c = omega arith

-- the invariant of every state that events lead to
pub record Sound (breaks : ℕ → Bool) (bounds : List ℕ) (state : ScheduleState) : Type 0 where
  pub sixteen : length state.workers ≡ 16
  pub within : state.shared.next ≤ blocks_of bounds
  pub fits : (w : ℕ) → Fits breaks bounds state.shared.next (worker_of state w)
  pub counts : (k : ℕ) → CountsTo bounds state.shared.next state.shared.least k (times k state.shared.runs
      + held k state.workers)
  pub least : least_break_of breaks bounds state.shared.runs ≡ lesser state.shared.least (unposted state.workers)

-- a worker that a list of events names
abbrev pub names : ℕ → List Event → Bool
names w events = list_any (λ (e : Event). e.worker == w) events

module _ (breaks : ℕ → Bool) (bounds : List ℕ) (rises : falls 0 bounds ≡ false) where
  sound_after : (state : ScheduleState) (number : ℕ) (new : Worker) (after : Shared) → Sound breaks bounds state
      → number < 16 →
      Kept breaks bounds (worker_of state number) state.shared new after
      → Sound breaks bounds (record { shared = after; workers = slice_set state.workers number new })
  sound_after state number new after sound below kept = record {
    sixteen = length-set state.workers number new ∙ sound.sixteen;
    within = kept.within;
    fits = λ w. elim (cases_eq w number) [
      | inl same ↦ rw (same, get_or-set_same state.workers number new Idle there) kept.fits
      | inr other ↦ rw (get_or-set_other state.workers number w new Idle other) (kept.fit_on (worker_of state w)
          (sound.fits w))
    ];
    counts = λ k.
        rw (changed ℕ (λ a b. a + b) 0 (holds k) add_swap state.workers number new there)
        (kept.counts k (others ℕ (λ a b. a + b) 0 (holds k) state.workers number)
        (rw (one_and_others ℕ (λ a b. a + b) 0 (holds k) add_swap state.workers number there) at (sound.counts k)));
    least = rw (changed (Option ℕ) lesser None to_post lesser_swap state.workers number new there)
        (kept.least (others (Option ℕ) lesser None to_post state.workers number)
        (rw (one_and_others (Option ℕ) lesser None to_post lesser_swap state.workers number there) at sound.least));
  }
    where
      there : number < length state.workers
      there = let n = sound.sixteen in omega arith

  -- after an event: what is known of the state, and that no other worker did anything
  abbrev pub OneOk : ℕ → ScheduleState → Result ScheduleState ReplayFault → Type 0
  OneOk number state (Err fault) = Unit {0}
  OneOk number state (Ok after) = Sound breaks bounds after
      × ((w : ℕ) → (w ≡ number → ⊥) → worker_of after w ≡ worker_of state w)

  enabled_ok : (place number : ℕ) (state : ScheduleState) → Sound breaks bounds state → number < 16 → (o : Option Moved)
      →
      KeptIfEnabled breaks bounds rises (worker_of state number) state.shared o
      → OneOk number state (if_enabled place number state o)
  enabled_ok place number state sound below None kept = tt
  enabled_ok place number state sound below (Some m) kept = (
    sound_after state number m.worker m.shared sound below kept,
    λ w other. get_or-set_other state.workers number w
        m.worker Idle other,
  )

  pub event_ok : (e : Event) (place : ℕ) (state : ScheduleState) → Sound breaks bounds state → (above : Bool)
      → nat_lt 15 e.worker ≡ above →
      OneOk e.worker state (if above then Err (faults.NoSuchWorker place) else if_enabled place e.worker state
      (transition breaks bounds e.kind (worker_of state e.worker) state.shared))
  event_ok e place state sound true h = tt
  event_ok e place state sound false h =
      let most = ltb-false 15 e.worker h in
      enabled_ok place e.worker state sound (omega arith) (transition breaks bounds e.kind (worker_of state e.worker)
      state.shared)
      (event_keeps breaks bounds rises e.kind (worker_of state e.worker) state.shared sound.within
      (sound.fits e.worker))

  -- after a list of events
  abbrev pub AllOk : List Event → ScheduleState → Result ScheduleState ReplayFault → Type 0
  AllOk events state (Err fault) = Unit {0}
  AllOk events state (Ok after) = Sound breaks bounds after × ((w : ℕ) → names w events ≡ false
      → worker_of after w ≡ worker_of state w)

  -- an event before others
  event_before : (e : Event) (events : List Event) (first next : ScheduleState) → ((w : ℕ) → (w ≡ e.worker → ⊥)
      → worker_of next w ≡ worker_of first w) →
      (r : Result ScheduleState ReplayFault) → AllOk events next r → AllOk (e ∷ events) first r
  event_before e events first next same (Err fault) ok = tt
  event_before e events first next same (Ok after) ok = (
    ok.0,
    λ w none.
        let parts = or_parts (e.worker == w) (names w events) none in
        ok.1 w parts.1 ∙ same w (λ here. both_ways (e.worker == w) parts.0 (eq-eqb e.worker w (sym here))),
  )

  events_on : (e : Event) (events : List Event) (place : ℕ) (state : ScheduleState) →
      ((next : ScheduleState) → Sound breaks bounds next
      → AllOk events next (after_events breaks bounds events (place + 1) next)) →
      (r : Result ScheduleState ReplayFault) → OneOk e.worker state r
      → AllOk (e ∷ events) state (and_then (after_events breaks bounds events (place + 1)) r)
  events_on e events place state later (Err fault) ok = tt
  events_on e events place state later (Ok next) ok =
      event_before e events state next ok.1 (after_events breaks bounds events (place + 1) next) (later next ok.0)

  pub events_ok : (events : List Event) (place : ℕ) (state : ScheduleState) → Sound breaks bounds state
      → AllOk events state (after_events breaks bounds events place state)
  events_ok [] place state sound = (sound, λ w none. refl)
  events_ok (e ∷ events) place state sound =
      events_on e events place state (λ next ok. events_ok events (place + 1) next ok)
      (after_event breaks bounds e place state)
      (event_ok e place state sound (nat_lt 15 e.worker) refl)

  -- at first
  idle_at : (count w : ℕ) → slice_index_or (replicate count Idle) w Idle ≡ Idle
  idle_at zero w = refl
  idle_at (suc count) zero = refl
  idle_at (suc count) (suc w) = idle_at count w

  pub sound_at_first : Sound breaks bounds at_first
  sound_at_first = record {
    sixteen = refl;
    within = omega arith;
    fits = λ w. subst (λ (v : Worker). Fits breaks bounds 0 v) (sym (idle_at 16 w)) tt;
    counts = λ k. record { once = omega arith; not_taken = λ h. refl; taken = λ h. absurd (omega arith) };
    least = refl;
  }

-- a worker that neither has a block nor a break
pub record IsQuiet (w : Worker) : Type 0 where
  pub holds_none : (k : ℕ) → holds k w ≡ 0
  pub posts_none : to_post w ≡ None

idle_quiet : IsQuiet Idle
idle_quiet = record { holds_none = λ k. refl; posts_none = refl }

stopped_quiet : (w : Worker) → is_stopped w ≡ true → IsQuiet w
stopped_quiet Stopped h = record { holds_none = λ k. refl; posts_none = refl }
stopped_quiet w h = absurd (cc)

-- a worker that stopped found no block left
stopped_fits : (breaks : ℕ → Bool) (bounds : List ℕ) (next : ℕ) (w : Worker) → is_stopped w ≡ true
    → Fits breaks bounds next w → next ≡ blocks_of bounds
stopped_fits breaks bounds next Stopped h fits = fits
stopped_fits breaks bounds next w h fits = absurd (cc)

-- of a list that all passes, one that is named does
named_stopped : (state : ScheduleState) (events : List Event)
    → list_all (λ (e : Event). is_stopped (worker_of state e.worker)) events ≡ true → (w : ℕ) → names w events ≡ true →
    is_stopped (worker_of state w) ≡ true
named_stopped state [] all w h = absurd (cc)
named_stopped state (e ∷ events) all w h =
    let parts = and_parts (is_stopped (worker_of state e.worker))
    (list_all (λ (e : Event). is_stopped (worker_of state e.worker)) events) all in
    elim (or_cases (e.worker == w) (names w events) h) [
      | inl same ↦ subst (λ (i : ℕ). is_stopped (worker_of state i) ≡ true) (eqb-true e.worker w same) parts.0
      | inr found ↦ named_stopped state events parts.1 w found
    ]

first_stopped : (state : ScheduleState) (events : List Event) → nat_lt 0 (length events) ≡ true
    → list_all (λ (e : Event). is_stopped (worker_of state e.worker)) events ≡ true →
    (w : ℕ) × (is_stopped (worker_of state w) ≡ true)
first_stopped state [] some all = absurd (cc)
first_stopped state (e ∷ events) some all = (
  e.worker,
  (and_parts (is_stopped (worker_of state e.worker))
      (list_all (λ (e : Event). is_stopped (worker_of state e.worker)) events) all).0,
)

pub no_fault : (bounds : List ℕ) (blocks : List Block) → lacks_some bounds blocks ≡ false → twice blocks ≡ false
    → list_any (λ (b : Block). not (stands_in bounds b)) blocks ≡ false →
    gather_fault bounds blocks ≡ None
no_fault bounds blocks m t f = rw (m, t, f) refl

-- what is known at the end: each block was taken, and run once, or may be skipped
pub record AtEnd (breaks : ℕ → Bool) (bounds : List ℕ) (shared : Shared) : Type 0 where
  pub taken : shared.next ≡ blocks_of bounds
  pub once : (k : ℕ) → times k shared.runs ≤ 1
  pub run_or_late : (k : ℕ) → k < blocks_of bounds
      → (0 < times k shared.runs) ⊎ (starts_late shared.least (start_of bounds k) ≡ true)
  pub least : shared.least ≡ least_break_of breaks bounds shared.runs

module _ (breaks : ℕ → Bool) (bounds : List ℕ) (rises : falls 0 bounds ≡ false) (events : List Event)
    (state : ScheduleState) (sound : Sound breaks bounds state)
    (apart : (w : ℕ) → names w events ≡ false → worker_of state w ≡ worker_of at_first w)
    (some : nat_lt 0 (length events) ≡ true)
    (all : list_all (λ (e : Event). is_stopped (worker_of state e.worker)) events ≡ true) where
  quiet : (w : ℕ) → IsQuiet (worker_of state w)
  quiet w = elim (cases_Bool (names w events)) [
    | inl named ↦ stopped_quiet (worker_of state w) (named_stopped state events all w named)
    | inr other ↦ rw (apart w other, idle_at breaks bounds rises 16 w) idle_quiet
  ]

  none_held : (k : ℕ) → held k state.workers ≡ 0
  none_held k = none_of_all ℕ (λ a b. a + b) 0 (holds k) (λ a. omega arith) state.workers
      (λ i h. (quiet i).holds_none k)

  none_unposted : unposted state.workers ≡ None
  none_unposted = none_of_all (Option ℕ) lesser None to_post (λ a. refl) state.workers (λ i h. (quiet i).posts_none)

  all_taken : state.shared.next ≡ blocks_of bounds
  all_taken = let one = first_stopped state events some all in stopped_fits breaks bounds state.shared.next
      (worker_of state one.0) one.1 (sound.fits one.0)

  pub at_end : AtEnd breaks bounds state.shared
  at_end = record {
    taken = all_taken;
    once = λ k. (let most = (sound.counts k).once in omega arith);
    run_or_late = λ k below. elim ((sound.counts k).taken (let t = all_taken in omega arith)) [
      | inl one ↦ (let none = none_held k in inl (omega arith))
      | inr late ↦ inr late
    ];
    least = sym (sound.least ∙ (ap (lesser state.shared.least) none_unposted ∙ lesser_none state.shared.least));
  }

ended_by : (breaks : ℕ → Bool) (bounds : List ℕ) (rises : falls 0 bounds ≡ false) (events : List Event)
    (state : ScheduleState)
    (r : Result ScheduleState ReplayFault) → AllOk breaks bounds rises events at_first r → and_then (if_ended events) r
    ≡ Ok state → AtEnd breaks bounds state.shared
ended_by breaks bounds rises events state (Err fault) ok h = absurd (cc)
ended_by breaks bounds rises events state (Ok last) ok h = elim (cases_Bool (has_ended events last)) [
  | inl e ↦
      let parts = and_parts (nat_lt 0 (length events)) _ e in
      let is : Ok last ≡ Ok state = rw e at h in
      let same : last ≡ state = cc in
      subst (λ (s : ScheduleState). AtEnd breaks bounds s.shared) same
      (at_end breaks bounds rises events last ok.0 ok.1 parts.0 parts.1)
  | inr other ↦ (let none : Err (faults.NotEnded (length events)) ≡ Ok state = rw other at h in absurd (cc))
]

module _ (program : Program) (bound : ℕ) (call : LoopCall) (words : List ℕ) (bounds : List ℕ) (shared : Shared)
    (fine : split_fault bounds call.n ≡ None)
    (end : AtEnd (breaks_at program bound call words) bounds shared) (blocks : List Block)
    (are : AreRun program bound call words bounds shared.runs blocks) where
  same_times : (k : ℕ) → times k (map (λ (b : Block). b.number) blocks) ≡ times k shared.runs
  same_times k = ap (times k) are.numbered

  least_same : shared.least ≡ least_of blocks
  least_same =
      end.least ∙ (ap (least_break_of (breaks_at program bound call words) bounds) (sym are.numbered)
      ∙ sym (least_is_least (λ index. iteration program bound call index words) bounds blocks are.stand are.run))

  gathers : gather_fault bounds blocks ≡ None
  gathers =
      no_fault bounds blocks
      (none_lacks bounds blocks (λ k below. elim (end.run_or_late k below) [
        | inl some ↦ inl (some_times k blocks (let same = same_times k in omega arith))
        | inr late ↦ inr (rw least_same at late)
      ]))
      (once_each blocks (λ k. (let most = end.once k in let same = same_times k in omega arith)))
      (none_foreign bounds blocks are.stand)

  complete : Complete program bound call words bounds shared blocks
  complete = record {
    gathered = gathers;
    least_of_blocks = least_same;
    least_of_loop = least_same ∙ (blocks_gather program bound call words bounds blocks fine gathers are.run).break;
  }

pub ended_schedules_complete : EndedSchedulesComplete
ended_schedules_complete program bound call words bounds events state fine h =
    let breaks : ℕ → Bool = breaks_at program bound call words in
    let rises = (faultless call.n bounds fine).rises in
    let end : AtEnd breaks bounds state.shared =
    ended_by breaks bounds rises events state (after_events breaks bounds events 0 at_first)
    (events_ok breaks bounds rises events 0 at_first (sound_at_first breaks bounds rises)) h in
    record { taken = end.taken; complete = complete program bound call words bounds state.shared fine end }
