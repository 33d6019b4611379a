-- The state of a replay, event by event.
use Rattle.std.specs.Prelude.{◌≡◌, ℕ, Bool, List, ◌∷◌, map, length, slice_index_or, Option, Some, None, Ok}
use Rattle.std.specs.List.{AllByRecursion}
use Rattle.bpf_step_model.specs.{Run.{Ended}, Iteration.{Iterated}}
use Rattle.loop_core_model.specs.{Block.{block_run, break_from}, Gather.{is_bound}, Outcome.{breaks_at}}
use Rattle.loop_core_model.specs.declared.event.{Event.{Event}, EventKind.{EventKind, TheVariants.{Turn}}}
use Rattle.loop_core_replay.specs.declared.worker.Worker.{Worker, TheVariants.{Running}}
use Rattle.loop_core_model.specs.{Intervals.{blocks_of, start_of, end_of}, Schedule.{replay}}
use Rattle.loop_core_replay.specs.Standing.{Standing, state}
use Rattle.loop_core_block.specs.{declared.block.Block.{Block}, Loops.{LoopOf}, LoopBlocks.{IsBlockOf}, Shown.{shown}}

-- the blocks that are active, by number, and those that were run, the latest first
pub record BlocksOf : Type 0 where
  pub under_way : List (Option Block)
  pub ran : List Block

-- which iterations of a loop break on its start words
abbrev pub loop_breaks : LoopOf → ℕ → Bool
loop_breaks l = breaks_at l.program 4096 l.call l.start.words

-- the numbers of blocks
abbrev pub block_numbers : List Block → List ℕ
block_numbers blocks = map (λ b. (shown b).number) blocks

-- the loop's block of this number, where there is one
abbrev pub IfBlockOf : LoopOf → ℕ → Option Block → Type 0
IfBlockOf s number None = Unit {0}
IfBlockOf s number (Some b) = IsBlockOf s number (shown b)

-- they are blocks of the split
pub record AreBlocks (s : LoopOf) (blocks : BlocksOf) : Type 0 where
  pub count : length blocks.under_way ≡ blocks_of s.bounds
  pub under_way : (number : ℕ) → IfBlockOf s number (slice_index_or blocks.under_way number None)
  pub ran : AllByRecursion (λ b. IsBlockOf s (shown b).number (shown b)) blocks.ran

-- whether a block breaks at this index on the start words
pub record BreaksAt (s : LoopOf) (number index : ℕ) (breaks : Bool) : Type 0 where
  pub ran : List Iterated
  pub ended : block_run s.program 4096 s.call s.start.words (start_of s.bounds number) (end_of s.bounds number)
      ≡ Ended ran
  pub breaks_is : breaks ≡ is_bound (break_from (start_of s.bounds number) ran) index

-- where the event is a worker's turn: whether its block breaks at its index
abbrev pub TurnBreaks : LoopOf → EventKind → Worker → Bool → Type 0
TurnBreaks s Turn (Running block index) breaks = BreaksAt s block index breaks
TurnBreaks s kind worker breaks = Unit {0}

-- a block was run more
pub record BlockHasRun (s : LoopOf) (number : ℕ) (old new : BlocksOf) : Type 0 where
  pub blocks : AreBlocks s new
  pub numbers : block_numbers new.ran ≡ number ∷ block_numbers old.ran

-- the list has ended, and these blocks were run
pub record IsLeft (s : LoopOf) (events : List Event) (ran : List Block) : Type 0 where
  pub standing : Standing
  pub ended : replay (loop_breaks s) s.bounds events ≡ Ok (state standing (block_numbers ran))
  pub blocks : AllByRecursion (λ b. IsBlockOf s (shown b).number (shown b)) ran
