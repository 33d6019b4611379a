use Rattle.std.proofs.Common.{rules}
use Rattle.loop_core_undo.proofs.RunLaws.{any_more}
use Rattle.loop_core_undo.proofs.runs.is_any_set.Goals as goal

pub loop-k-preserved : goal.loop-k-preserved
loop-k-preserved c = any_more c.args.flags.now c.args.first c.loop-k.k c.loop-k.any _ (search rules) c.loop-k.invariant
