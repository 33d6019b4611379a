-- Which plans are within their limits.
use Rattle.std.specs.Prelude.{◌<◌, ◌≤◌}
use Rattle.loop_core_split.specs.declared.plan.Plan.{Plan}

-- 1 to 16 workers and 1 to 64 blocks
pub record IsPlan (plan : Plan) : Type 0 where
  pub some_worker : 0 < plan.workers
  pub few_workers : plan.workers ≤ 16
  pub some_block : 0 < plan.blocks
  pub few_blocks : plan.blocks ≤ 64
