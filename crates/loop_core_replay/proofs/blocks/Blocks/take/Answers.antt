use Rattle.std.proofs.Common.{sym, ◌∙◌}
use Rattle.loop_core_replay.proofs.BlockLaws.{changed_in, there_in}
use Rattle.loop_core_replay.proofs.blocks.Blocks.take.Goals as goal
use Rattle.loop_core_replay.proofs.blocks.Blocks.take.Goals.{in-Some, in-None}

pub returns-clause-blocks : goal.returns-clause-blocks
returns-clause-blocks c =
    changed_in c.self.inside.under_way.items c.self.inside.ran.items c.args.self.now c.args.number c.self.view_is
    c.args.of.now c.requires.blocks c.take.new.self c.requires.within (rw c.take.ensures.after tt)

pub returns-clause-block : goal.returns-clause-block
returns-clause-block c =
    elim c.match-take.branch [
      | in-Some w ↦ rw w.result-is (there_in c.self.inside.under_way.items c.self.inside.ran.items c.args.self.now
          c.args.number c.self.view_is c.args.of.now c.requires.blocks c.index_mut.result.now w.in-Some.block
          c.requires.within c.index_mut.ensures.value (sym c.take.ensures.value ∙ w.in-Some.is))
      | in-None w ↦ rw w.result-is w.run_block.ensures
    ]
