-- Which way a loop call went.
use Rattle.std.specs.Prelude.{◌≡◌, ℕ, List, length}
use Rattle.array_maps.specs.MapList.{MapList}
use Rattle.loop_core_model.specs.Intervals.{blocks_of}
use Rattle.loop_core_sequential.specs.Watched.{RanAndPasses, ReachesWritten}
use Rattle.loop_core_split.specs.declared.strategy.Strategy.{Strategy, TheVariants.{Blocks}}
use Rattle.loop_core_split.specs.declared.strategy.Strategy.TheVariants as strategies
use Rattle.spec_run_loop.specs.{declared.strategy.{BlockPlan.{BlockPlan}, Executor.{Executor}}, Jobs.{JobOf}}
use Rattle.spec_run_loop.specs.declared.strategy.{Executor.TheVariants.{Caller, Workers}, StrategyPlan.{StrategyPlan}}
use Rattle.spec_run_loop.specs.declared.strategy.StrategyPlan.TheVariants.{Sums, Watched, ByBlocks}
use Rattle.spec_run_loop.specs.StrategyPlans.{IsStrategyOf}

-- how many workers a executor has: the calling thread is one
abbrev pub workers_of : Executor → ℕ
workers_of Caller = 1
workers_of (Workers workers) = workers

-- which way a loop went that was run by these blocks
abbrev pub strategy_by : BlockPlan → Strategy
strategy_by blocks = Blocks (blocks_of blocks.split) (workers_of blocks.executor) blocks.why

-- which way a loop went from these words that was watched: in order to its end, and it passes; or by these blocks,
-- where it reaches an iteration that sees or reduces what was written
pub data IsWatchedStrategy (job : JobOf) (words : List ℕ) (otherwise : BlockPlan) (strategy : Strategy) : Type 0 where
  ToTheEnd : (start left : MapList) (answer : ℕ) → start.words ≡ words
      → RanAndPasses job.program job.call start left answer → strategy ≡ strategies.Watched
      → IsWatchedStrategy job words otherwise strategy
  GivenUp : (start : MapList) → start.words ≡ words → ReachesWritten job.program job.call start
      → strategy ≡ strategy_by otherwise → IsWatchedStrategy job words otherwise strategy

-- which way a loop went from these words that was to go so
abbrev pub IsCourseBy : JobOf → (words : List ℕ) → StrategyPlan → Strategy → Type 0
IsCourseBy job words (Sums of workers) strategy = strategy ≡ strategies.Sums workers
IsCourseBy job words (Watched otherwise) strategy = IsWatchedStrategy job words otherwise strategy
IsCourseBy job words (ByBlocks blocks) strategy = strategy ≡ strategy_by blocks

-- which way a loop goes from these words: by the way that is its
pub record IsStrategyUsed (job : JobOf) (words : List ℕ) (strategy : Strategy) : Type 0 where
  pub way : StrategyPlan
  pub goes : IsStrategyOf job (length words) way
  pub is : IsCourseBy job words way strategy
