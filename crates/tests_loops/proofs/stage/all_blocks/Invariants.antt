use Rattle.std.proofs.Common.{All}
use Rattle.tests_loops.specs.Stages.{IsRunOn}
use Rattle.tests_loops.proofs.stage.all_blocks.Given as goal

abbrev pub invariant-loop-number : goal.invariant-loop-number
invariant-loop-number l = All (IsRunOn l.fn.test l.fn.stage) l.blocks.items
