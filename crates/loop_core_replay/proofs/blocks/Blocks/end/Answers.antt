use Rattle.loop_core_replay.proofs.BlockLaws.{run_in}
use Rattle.loop_core_replay.proofs.blocks.Blocks.end.Goals as goal

pub returns : goal.returns
returns c =
    run_in c.self.inside.under_way.items c.self.inside.ran.items c.take.new.self c.args.number c.self.view_is
    c.args.of.now c.take.ensures.blocks c.in_ok-block.block c.insert.new.self.items c.args.self.now
    c.in_ok-block.ensures.block c.in_ok-insert.ensures.items c.take.ensures.ran
