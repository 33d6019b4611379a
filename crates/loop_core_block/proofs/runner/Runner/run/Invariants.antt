use Rattle.loop_core_block.proofs.RunLaws.{RanAll}
use Rattle.loop_core_block.proofs.runner.Runner.run.Given as goal

abbrev pub invariant-loop-index : goal.invariant-loop-index
invariant-loop-index g l = RanAll l.first l.index l.fn.self l.self
