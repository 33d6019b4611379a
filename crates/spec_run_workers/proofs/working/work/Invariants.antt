use Rattle.std.proofs.Common.{◌-◌, map}
use Rattle.loop_core_block.specs.Shown.{shown}
use Rattle.spec_run_workers.proofs.StillWorks.{above, StillWorks}
use Rattle.spec_run_workers.proofs.working.work.Given as goal

abbrev pub invariant-loop-number : goal.invariant-loop-number
invariant-loop-number g l = StillWorks l.of l.fn.seat l.seat (map shown l.blocks.items)

abbrev pub decreases-loop-number : goal.decreases-loop-number
decreases-loop-number g l = l.board.blocks - above l.seat.history.draws
