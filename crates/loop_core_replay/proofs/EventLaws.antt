-- What events do to a replay.
use Rattle.std.proofs.Common.{◌≡◌, ℕ, zero, suc, ◌+◌, ◌-◌, ◌<◌, Bool, true, false, List, ◌++◌, take, Option}
use Rattle.std.{proofs.Common.{Some, None, refl, sym, ◌∙◌, ap, subst, arith}, specs.Option.{option_to_list}}
use Rattle.std.specs.Prelude.{slice_get, slice_index_or, if◌then◌else◌, length, Err}
use Rattle.std.proofs.lemmas.{Bool.{eq-eqb, ne_eqb}, Option.{slice_get-get_or}}
use Rattle.bpf_step_model.specs.Iteration.{iteration}
use Rattle.loop_core_model.specs.{Gather.{is_bound}, Intervals.{start_of, end_of}}
use Rattle.loop_core_model.specs.declared.event.{Event.{Event}, EventKind.{EventKind}}
use Rattle.loop_core_model.specs.declared.replay_fault.ReplayFault.{ReplayFault, TheVariants.{NotEnded}}
use Rattle.loop_core_model.{specs.Schedule.{ScheduleState, at_first, has_ended, replay}, proofs.SplitLaws.{faultless}}
use Rattle.loop_core_model.proofs.{Steps.{first_break, RunsFrom, Fits as WorkerIsSound}, RunBlocks.{scan_break}}
use Rattle.loop_core_model.proofs.ScheduleLaws.{Sound, AllOk, events_ok, sound_at_first}
use Rattle.loop_core_model.specs.declared.event.EventKind.TheVariants as kinds
use Rattle.loop_core_replay.specs.declared.worker.{Worker.{Worker, TheVariants.{Idle, Holding, Running, Posting}}}
use Rattle.loop_core_replay.specs.declared.worker.Worker.TheVariants.{Drained, Stopped}
use Rattle.loop_core_replay.specs.{Standing.{Standing, WorkersFit, schedule_worker, state}, Moves.{TurnIs}}
use Rattle.loop_core_replay.specs.{Steps.{LeadsTo, Faults}, Replays.{BlocksOf, loop_breaks, block_numbers, AreBlocks}}
use Rattle.loop_core_replay.specs.Replays.{BreaksAt, TurnBreaks, BlockHasRun, IsLeft}
use Rattle.loop_core_replay.proofs.{WorkerEvents.{LeadTo, next, faulty, all_ended}, StandingLaws.{seen_at}}
use Rattle.loop_core_block.specs.Loops.{LoopOf, IsSpeculative}

-- a state that events lead to is sound
sound_of : (s : LoopOf) → IsSpeculative s → (events : List Event) (place : ℕ) (now : ScheduleState)
    → LeadTo (loop_breaks s) s.bounds events place now → Sound (loop_breaks s) s.bounds now
sound_of s is events place now led =
    let rises = (faultless s.call.n s.bounds is.split).rises in
    (subst (AllOk (loop_breaks s) s.bounds rises (take place events) at_first) led
    (events_ok (loop_breaks s) s.bounds rises (take place events) 0 at_first (sound_at_first (loop_breaks s) s.bounds
    rises))).0

-- of the indices from one on the first that breaks isn't below it
not_below : (breaks : ℕ → Bool) (left from index : ℕ) → index < from → is_bound (first_break breaks left from) index
    ≡ false
not_below breaks zero from index below = refl
not_below breaks (suc left) from index below =
    go (breaks from) (not_below breaks left (from + 1) index (omega (arith, below)))
  where
    go : (b : Bool) → is_bound (first_break breaks left (from + 1)) index ≡ false → is_bound (if b then Some from
        else first_break breaks left (from + 1)) index ≡ false
    go true later = ne_eqb from index (λ same. absurd (omega (arith, below, same)))
    go false later = later

-- the first from an index on is that index where it breaks
first_is : (breaks : ℕ → Bool) (left index : ℕ) → 0 < left → is_bound (first_break breaks left index) index
    ≡ breaks index
first_is breaks zero index some_left = absurd (omega (arith, some_left))
first_is breaks (suc left) index some_left = go (breaks index)
  where
    go : (b : Bool) → is_bound (if b then Some index else first_break breaks left (index + 1)) index ≡ b
    go true = eq-eqb index index refl
    go false = not_below breaks left (index + 1) index (omega arith)

-- a worker's iteration breaks where its block does
turn_breaks : (s : LoopOf) (block index : ℕ) (broke : Bool) → RunsFrom (loop_breaks s) s.bounds block index
    → BreaksAt s block index broke → loop_breaks s index ≡ broke
turn_breaks s block index broke runs at =
    let end = runs.before_end in
    sym (at.breaks_is ∙ ap (λ (o : Option ℕ). is_bound o index)
    (scan_break (λ (index : ℕ). iteration s.program 4096 s.call index s.start.words) (end_of s.bounds block
    - start_of s.bounds block) (start_of s.bounds block) at.ran at.ended
    ∙ runs.no_break)
    ∙ first_is (loop_breaks s) (end_of s.bounds block - index) index (omega (arith, end)))

-- so what is said of the event's turn is so
turn_is : (s : LoopOf) (next : ℕ) (kind : EventKind) (worker : Worker) (broke : Bool)
    → WorkerIsSound (loop_breaks s) s.bounds next (schedule_worker worker) → TurnBreaks s kind worker broke
    → TurnIs (loop_breaks s) kind worker broke
turn_is s next kinds.Turn (Running block index) broke sound at = turn_breaks s block index broke sound at
turn_is s next kinds.Turn Idle broke sound at = tt
turn_is s next kinds.Turn (Holding block) broke sound at = tt
turn_is s next kinds.Turn (Posting index) broke sound at = tt
turn_is s next kinds.Turn Drained broke sound at = tt
turn_is s next kinds.Turn Stopped broke sound at = tt
turn_is s next kinds.Claim worker broke sound at = tt
turn_is s next kinds.Look worker broke sound at = tt
turn_is s next kinds.Post worker broke sound at = tt
turn_is s next kinds.Stop worker broke sound at = tt

-- the events before this place lead to these workers, and to blocks of the loop
pub record HasCome (s : LoopOf) (events : List Event) (place : ℕ) (workers : Standing) (now : BlocksOf) : Type 0 where
  pub led : LeadTo (loop_breaks s) s.bounds events place (state workers (block_numbers now.ran))
  pub fits : WorkersFit s.bounds workers
  pub blocks : AreBlocks s now

-- an event at a place, of a loop that is seen as its fields
module _ (given s : LoopOf) (same : given ≡ s) (events : List Event) (place : ℕ) (workers : Standing)
    (blocks : BlocksOf) (come : HasCome s events place workers blocks) (first : Event) (within : place < length events)
  where
    abbrev e : Event
    e = slice_index_or events place first

    there : slice_get events place ≡ Some e
    there = slice_get-get_or events place first within

    -- it leads on
    module _ (is : IsSpeculative given) (after : Standing) (fits : WorkersFit given.bounds after) (broke : Bool)
        (turn : TurnBreaks s e.kind (slice_index_or workers.workers e.worker Idle) broke) (ran : Option ℕ)
        (leads : LeadsTo given.bounds e place broke workers after ran) where
      leads_on : (new : BlocksOf) → AreBlocks s new
          → block_numbers new.ran ≡ option_to_list ran ++ block_numbers blocks.ran
          → HasCome s events (place + 1) after new
      leads_on new are numbers =
          let sound = sound_of s (subst IsSpeculative same is) events place (state workers (block_numbers blocks.ran))
          come.led in
          let known : WorkerIsSound (loop_breaks s) s.bounds workers.shared.next
          (schedule_worker (slice_index_or workers.workers e.worker Idle)) =
          subst (WorkerIsSound (loop_breaks s) s.bounds workers.shared.next) (seen_at workers.workers e.worker)
          (sound.fits e.worker) in
          let is_so : TurnIs (loop_breaks s) e.kind (slice_index_or workers.workers e.worker Idle) broke =
          turn_is s workers.shared.next e.kind (slice_index_or workers.workers e.worker Idle) broke known turn in
          let led = subst (λ (o : LoopOf). LeadsTo o.bounds e place broke workers after ran) same leads in
          record {
            led = rw numbers (next (loop_breaks s) s.bounds events place e
                (state workers (block_numbers blocks.ran))
                (state after (option_to_list ran ++ block_numbers blocks.ran)) there come.led
                (led (loop_breaks s) (block_numbers blocks.ran) is_so));
            fits = subst (λ (o : LoopOf). WorkersFit o.bounds after) same fits;
            blocks = are;
          }

      -- without a block that was run
      pub step_alone : (new : BlocksOf) → AreBlocks s new → new.ran ≡ blocks.ran → ran ≡ None
          → HasCome s events (place + 1) after new
      step_alone new are kept none = leads_on new are (rw (none, kept) refl)

      -- with one
      pub step_last : (number : ℕ) (active new : BlocksOf) → active.ran ≡ blocks.ran → ran ≡ Some number
          → BlockHasRun s number active new → HasCome s events (place + 1) after new
      step_last number active new kept some run =
          leads_on new run.blocks (run.numbers ∙ rw (some, kept) refl)

    -- it has a fault
    pub step_refused : (met fault : ReplayFault) → met ≡ fault → Faults given.bounds e place workers met
        → replay (loop_breaks s) s.bounds events ≡ Err fault
    step_refused met fault is faults =
        let so = subst (λ (o : LoopOf). Faults o.bounds e place workers met) same faults in
        faulty (loop_breaks s) s.bounds events place e (state workers (block_numbers blocks.ran)) met there come.led
        (so (loop_breaks s) (block_numbers blocks.ran)) ∙ ap Err is

-- all were done: the list has ended, and these blocks are left
pub ended : (s : LoopOf) (events : List Event) (place : ℕ) (workers : Standing) (blocks : BlocksOf)
    → place ≡ length events → HasCome s events place workers blocks
    → ((runs : List ℕ) → has_ended events (state workers runs) ≡ true) → IsLeft s events blocks.ran
ended s events place workers blocks all come is = record {
  standing = workers;
  ended = all_ended (loop_breaks s) s.bounds events (state workers (block_numbers blocks.ran)) true
      (is (block_numbers blocks.ran)) (rw all at come.led);
  blocks = come.blocks.ran;
}

-- or it hasn't
pub unended : (s : LoopOf) (events : List Event) (place : ℕ) (workers : Standing) (blocks : BlocksOf)
    (met fault : ReplayFault) → place ≡ length events → HasCome s events place workers blocks
    → ((runs : List ℕ) → has_ended events (state workers runs) ≡ false) → met ≡ NotEnded (length events) → met ≡ fault
    → replay (loop_breaks s) s.bounds events ≡ Err fault
unended s events place workers blocks met fault all come is not_ended same =
    all_ended (loop_breaks s) s.bounds events (state workers (block_numbers blocks.ran)) false
    (is (block_numbers blocks.ran)) (rw all at come.led) ∙ ap Err (sym not_ended ∙ same)
