-- Which way a loop goes.
use Rattle.std.specs.Prelude.{◌≡◌, ℕ, ◌<◌, ◌≤◌, ◌==◌, List, None, if◌then◌else◌}
use Rattle.loop_core_model.specs.{declared.loop_test.Test.{Test, TheVariants.{Flow, Lrpd}}, Intervals.{blocks_of}}
use Rattle.loop_core_model.specs.Split.{even_bounds, split_fault}
use Rattle.spec_run_loop.specs.{SumLoops.{AddsUp, AddsUpByNone}, declared.strategy.BlockPlan.{BlockPlan}, Jobs.{JobOf}}
use Rattle.spec_run_loop.specs.declared.strategy.Executor.{Executor, TheVariants.{Caller, Workers}}
use Rattle.spec_run_loop.specs.declared.strategy.StrategyPlan.{StrategyPlan, TheVariants.{Sums, Watched, ByBlocks}}
use Rattle.spec_run_loop.specs.Costs.{work_by_blocks, useful_blocks, useful_workers, copies_cost_more, sum_workers}
use Rattle.loop_core_split.specs.declared.plan.Policy.{Policy, TheVariants.{Pays, Blocks}}
use Rattle.loop_core_split.specs.declared.strategy.BlocksReason.{BlocksReason, TheVariants.{Asked, Work, ReadsWritten}}
use Rattle.loop_core_split.specs.declared.strategy.BlocksReason.TheVariants as reasons

-- who may run blocks with these bounds: the calling thread the only one, or 1 to 16 workers any
abbrev pub IsCrewFor : List ℕ → Executor → Type 0
IsCrewFor bounds Caller = blocks_of bounds ≡ 1
IsCrewFor bounds (Workers workers) = (0 < workers) × (workers ≤ 16)

-- a loop of n iterations may be run so: by 1 to 16 workers, and over a split of them
pub record IsLoopPlan (workers : ℕ) (bounds : List ℕ) (n : ℕ) : Type 0 where
  pub some_worker : 0 < workers
  pub few_workers : workers ≤ 16
  pub split : split_fault bounds n ≡ None

-- a split of n iterations, and who may run its blocks
pub record IsBlockPlan (n : ℕ) (blocks : BlockPlan) : Type 0 where
  pub split : split_fault blocks.split n ≡ None
  pub executor : IsCrewFor blocks.split blocks.executor

-- a way that this loop may go: as sums by 1 to 16 workers; watched by the flow test alone
abbrev pub MayGo : JobOf → StrategyPlan → Type 0
MayGo job (Sums of workers) = (of.program ≡ job.program) × (of.call ≡ job.call) × (0 < workers) × (workers ≤ 16)
MayGo job (Watched otherwise) = (job.plan.test ≡ Flow) × IsBlockPlan job.call.n otherwise
MayGo job (ByBlocks blocks) = IsBlockPlan job.call.n blocks

-- all blocks and all workers of the plan, which asks for them
abbrev pub all_blocks_of : JobOf → BlockPlan
all_blocks_of job = record {
  split = even_bounds job.call.n job.plan.blocks;
  executor = Workers job.plan.workers;
  why = Asked;
}

-- as many blocks as are worth it for so many workers: one in the calling thread where that is one worker
abbrev pub profitable_blocks : JobOf → (elements workers : ℕ) → BlocksReason → BlockPlan
profitable_blocks job elements workers why = record {
  split = even_bounds job.call.n (if workers == 1 then 1
      else useful_blocks (work_by_blocks job) elements job.plan.blocks workers);
  executor = if workers == 1 then Caller else Workers workers;
  why = why;
}

-- the way that pays of a loop that doesn't add up, by its test: in order and watched where copies cost more,
-- else by blocks
abbrev pub way_by_blocks : Test → JobOf → (elements workers : ℕ) → StrategyPlan
way_by_blocks Lrpd job elements workers = ByBlocks (profitable_blocks job elements workers reasons.Lrpd)
way_by_blocks Flow job elements workers =
    if copies_cost_more job workers then Watched (profitable_blocks job elements workers ReadsWritten)
    else ByBlocks (profitable_blocks job elements workers Work)

-- the way that pays of a loop over this many elements: as sums exactly where it adds up
abbrev pub IsCheapestStrategy : JobOf → (elements : ℕ) → StrategyPlan → Type 0
IsCheapestStrategy job elements (Sums of workers) = AddsUp job.program job.call
    × (of.program ≡ job.program) × (of.call ≡ job.call) × (workers ≡ sum_workers job elements)
IsCheapestStrategy job elements way = AddsUpByNone job.program job.call
    × (way ≡ way_by_blocks job.plan.test job elements (useful_workers (work_by_blocks job) elements job.plan))

-- the way of a loop over this many elements, by what the plan asks for
abbrev pub IsWayBy : Policy → JobOf → (elements : ℕ) → StrategyPlan → Type 0
IsWayBy Pays job elements way = IsCheapestStrategy job elements way
IsWayBy Blocks job elements way = way ≡ ByBlocks (all_blocks_of job)

abbrev pub IsStrategyOf : JobOf → (elements : ℕ) → StrategyPlan → Type 0
IsStrategyOf job elements way = IsWayBy job.plan.policy job elements way
