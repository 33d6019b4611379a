-- Blocks of a speculative loop.
use Rattle.std.specs.Prelude.{◌≡◌, ℕ, ◌<◌}
use Rattle.loop_core_model.specs.Intervals.{blocks_of, start_of, end_of}
use Rattle.loop_core_block.specs.{Blocks.{BlockOf}, Ran.{RecordsRun}, Loops.{LoopOf}}

-- a block was run on the loop's start words
abbrev pub RecordsRunOf : LoopOf → BlockOf → Type 0
RecordsRunOf l b = RecordsRun l.test l.program l.call l.start.words b

-- it is the loop's block of this number
pub record IsBlockOf (l : LoopOf) (number : ℕ) (b : BlockOf) : Type 0 where
  pub within : number < blocks_of l.bounds
  pub number_is : b.number ≡ number
  pub first_is : b.first ≡ start_of l.bounds number
  pub past_is : b.past ≡ end_of l.bounds number
  pub ran : RecordsRunOf l b
