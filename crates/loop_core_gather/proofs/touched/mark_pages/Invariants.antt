use Rattle.loop_core_block.specs.Shown.{shown}
use Rattle.loop_core_gather.proofs.TouchedLaws.{MarkedSoFar}
use Rattle.loop_core_gather.proofs.touched.mark_pages.Given as goal

abbrev pub invariant-loop-k : goal.invariant-loop-k
invariant-loop-k l = MarkedSoFar l.fn.touched l.touched (shown l.block).copy.pages l.bit l.k
