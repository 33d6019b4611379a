use Rattle.loop_core_replay.proofs.BlockLaws.{none_more}
use Rattle.loop_core_replay.proofs.blocks.Blocks.try_new.Goals as goal

pub loop-preserved : goal.loop-preserved
loop-preserved c = none_more c.loop.under_way.items c.push.new.self.items c.loop.counter c.loop.invariant
    c.in_ok-push.ensures.items
