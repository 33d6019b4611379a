use Rattle.std.proofs.Common.{◌≡◌, drop, map}
use Rattle.loop_core_block.specs.Shown.{shown}
use Rattle.loop_core_gather.specs.Counting.{has_twins}
use Rattle.loop_core_gather.proofs.order.has_twins.Given as goal

-- no number before appears twice
abbrev pub invariant-loop-place : goal.invariant-loop-place
invariant-loop-place l = has_twins (map shown l.blocks) ≡ has_twins (map shown (drop l.place l.blocks))
