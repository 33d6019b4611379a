use Rattle.std.proofs.Common.{Some}
use Rattle.loop_core_replay.proofs.BlockLaws.{changed_in}
use Rattle.loop_core_replay.proofs.blocks.Blocks.breaks.Goals as goal

pub returns-in_ok-active-in-Turn-Running-clause-blocks : goal.returns-in_ok-active-in-Turn-Running-clause-blocks
returns-in_ok-active-in-Turn-Running-clause-blocks c =
    changed_in c.self.inside.under_way.items c.self.inside.ran.items c.args.self.now c.in-Turn-Running.block
    c.self.view_is c.args.of.now c.requires.blocks (Some c.in_ok-active-in-Turn-Running.active)
    (rw c.in-Turn-Running.is-1 at c.requires.worker).0 c.in_ok-active-in-Turn-Running.ensures
