use Rattle.std.proofs.Common.{All, IfOk, Vec, Global, subst}
use Rattle.loop_core_block.specs.declared.block.Block.{Block}
use Rattle.loop_core_model.specs.declared.loop_test.Test.TheVariants.{Flow}
use Rattle.tests_loops.{specs.Stages.{IsRunOn}, proofs.AllLaws.{appended, popped}}
use Rattle.tests_loops.proofs.tests.blocks.workers.joined.Goals as goal

pub loop-worker-preserved : goal.loop-worker-preserved
loop-worker-preserved c =
    let less = popped _ c.loop-worker.done.items c.pop.new.self.items c.in-Some.worker c.in-Some.ensures.items
    c.loop-worker.invariant.rest in
    record {
      rest = less.0;
      ran = appended (IsRunOn Flow c.args.stage.now) c.loop-worker.blocks.items c.in_ok-its.its.items
          c.append.new.self.items c.in_ok-append.ensures.items c.loop-worker.invariant.ran
          (subst (λ r. IfOk r (λ (its : Vec Block Global). All (IsRunOn Flow c.args.stage.now) its.items))
          c.in_ok-its.was less.1);
    }
