-- What an ended list leaves.
use Rattle.std.proofs.Common.{◌≡◌, ℕ, zero, suc, ◌+◌, ◌<◌, true, List, [], ◌∷◌, map, length, Some, None, refl, sym, ◌∙◌}
use Rattle.std.{proofs.Common.{ap, subst, arith}, specs.Prelude.{slice_get, slice_index, Result, Ok, Err}}
use Rattle.std.{specs.List.{All, AllByRecursion}, proofs.lemmas.{Bool.{eq-eqb}, List.Elements.{All-nil, All-cons}}}
use Rattle.bpf_step_model.specs.Run.{Ended}
use Rattle.loop_core_model.specs.{declared.faults.GatherFault.{GatherFault}, Gather.{is_bound, stands_in, gather_fault}}
use Rattle.loop_core_model.specs.{Outcome.{Outcome, outcome, unless_fault, replayed}, declared.event.Event.{Event}}
use Rattle.loop_core_model.specs.ScheduleLaw.{EndedSchedulesComplete}
use Rattle.loop_core_model.specs.Gather as gather
use Rattle.loop_core_block.specs.{declared.block.Block.{Block}, Blocks.{BlockOf}, Shown.{shown}, LoopBlocks.{IsBlockOf}}
use Rattle.loop_core_block.specs.{Ran.{as_gathered, iterations_of, RecordsRun}, Loops.{LoopOf, IsSpeculative}}
use Rattle.loop_core_gather.specs.Gathered.{all_gathered}
use Rattle.loop_core_replay.specs.{Standing.{state}, Replays.{block_numbers, IsLeft}}

bound_at : (bounds : List ℕ) (k : ℕ) → k < length bounds → is_bound (slice_get bounds k) (slice_index bounds k) ≡ true
bound_at [] k h = absurd (omega (arith, h))
bound_at (bound ∷ bounds) zero h = eq-eqb bound bound refl
bound_at (bound ∷ bounds) (suc k) h = bound_at bounds k (omega (arith, h))

module _ (s : LoopOf) where
  abbrev AreOwn : List Block → Type 0
  AreOwn blocks = AllByRecursion (λ (b : Block). IsBlockOf s (shown b).number (shown b)) blocks

  abbrev gathered_of : List Block → List gather.Block
  gathered_of blocks = all_gathered s.program s.call s.start.words (map shown blocks)

  numbered : (blocks : List Block) → map (λ (b : gather.Block). b.number) (gathered_of blocks) ≡ block_numbers blocks
  numbered [] = refl
  numbered (b ∷ blocks) = ap (λ (ns : List ℕ). (shown b).number ∷ ns) (numbered blocks)

  one_stands : (b : BlockOf) → IsBlockOf s b.number b
      → stands_in s.bounds (as_gathered s.program s.call s.start.words b) ≡ true
  one_stands b is =
      let below = is.within in
      let first : is_bound (slice_get s.bounds b.number) b.first ≡ true =
      subst (λ (i : ℕ). is_bound (slice_get s.bounds b.number) i ≡ true) (sym is.first_is)
      (bound_at s.bounds b.number (omega (arith, below))) in
      let past : is_bound (slice_get s.bounds (b.number + 1)) b.past ≡ true =
      subst (λ (i : ℕ). is_bound (slice_get s.bounds (b.number + 1)) i ≡ true) (sym is.past_is)
      (bound_at s.bounds (b.number + 1) (omega (arith, below))) in
      rw (first, past) refl

  stand : (blocks : List Block) → AreOwn blocks → AllByRecursion (λ b. stands_in s.bounds b ≡ true) (gathered_of blocks)
  stand [] own = tt
  stand (b ∷ blocks) own = (one_stands (shown b) own.0, stand blocks own.1)

  run : (blocks : List Block) → AreOwn blocks → AllByRecursion (gather.IsRunOf s.program 4096 s.call s.start.words)
      (gathered_of blocks)
  run [] own = tt
  run (b ∷ blocks) own = (own.0.ran.ended ∙ ap (λ e. Ended (iterations_of e)) (sym own.0.ran.ended), run blocks own.1)

  -- each of them was run
  pub all_run : (blocks : List Block) → AreOwn blocks
      → All (λ (b : Block). RecordsRun s.test s.program s.call s.start.words (shown b)) blocks
  all_run [] own = All-nil (λ (b : Block). RecordsRun s.test s.program s.call s.start.words (shown b))
  all_run (b ∷ blocks) own = All-cons (λ (b : Block). RecordsRun s.test s.program s.call s.start.words (shown b)) b
      blocks own.0.ran (all_run blocks own.1)

  -- they are gathered
  pub no_fault : EndedSchedulesComplete → IsSpeculative s → (events : List Event) (ran : List Block)
      → IsLeft s events ran → gather_fault s.bounds (gathered_of ran) ≡ None
  no_fault law is events ran left =
      ((law s.program 4096 s.call s.start.words s.bounds events (state left.standing (block_numbers ran)) is.split
      left.ended).complete (gathered_of ran)
      (record { numbered = numbered ran; stand = stand ran left.blocks; run = run ran left.blocks })).gathered

  -- and the list comes to the loop's outcome
  pub comes_to : (events : List Event) (ran : List Block) → IsLeft s events ran → (o : Outcome)
      → outcome s.test s.program 4096 s.call s.start.words ≡ Ended o →
      replayed s.test s.program 4096 s.call s.start.words s.bounds events ≡ Ok (Ended o)
  comes_to events ran left o is = ap (unless_fault (outcome s.test s.program 4096 s.call s.start.words)) left.ended
      ∙ ap Ok is

-- so no fault is met
pub meets_none : {G E : Type 0} → EndedSchedulesComplete → (s : LoopOf) → IsSpeculative s
    → (events : List Event) (ran : List Block) → IsLeft s events ran →
    (result : Result G E) (wrap : GatherFault → E) (error : E) (fault : GatherFault) → result ≡ Err error
    → error ≡ wrap fault →
    ((f : GatherFault) → result ≡ Err (wrap f) → gather_fault s.bounds (all_gathered s.program s.call s.start.words
    (map shown ran)) ≡ Some f) → ⊥
meets_none law s is events ran left result wrap error fault failed wrapped told =
    let never = no_fault s law is events ran left in
    let met = told fault (failed ∙ ap (λ e. Err e) wrapped) in
    absurd (cc)
