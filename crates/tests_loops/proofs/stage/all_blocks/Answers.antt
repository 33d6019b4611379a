use Rattle.tests_loops.{specs.Stages.{IsRunOn}, proofs.AllLaws.{pushed}}
use Rattle.tests_loops.proofs.stage.all_blocks.Goals as goal

pub loop-number-preserved : goal.loop-number-preserved
loop-number-preserved c =
    pushed (IsRunOn c.args.test c.args.stage.now) c.loop-number.blocks.items c.push.new.self.items
    c.in_ok-run_on.field-0 c.in_ok-push.ensures.items c.loop-number.invariant c.in_ok-run_on.ensures
