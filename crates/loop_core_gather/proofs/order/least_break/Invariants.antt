use Rattle.std.proofs.Common.{◌≡◌, drop, map}
use Rattle.loop_core_model.specs.LeastBreak.{lesser}
use Rattle.loop_core_block.specs.Shown.{shown}
use Rattle.loop_core_gather.specs.Counting.{least_broke}
use Rattle.loop_core_gather.proofs.order.least_break.Given as goal

-- the least so far, and that of what is left
abbrev pub invariant-loop-block : goal.invariant-loop-block
invariant-loop-block l = least_broke (map shown l.blocks) ≡ lesser l.least
    (least_broke (map shown (drop l.block-index l.blocks)))
