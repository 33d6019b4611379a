use Rattle.std.proofs.Common.{All, IfOk, vec_len}
use Rattle.loop_core_model.specs.declared.loop_test.Test.TheVariants.{Flow}
use Rattle.tests_loops.specs.Stages.{IsRunOn}
use Rattle.tests_loops.proofs.tests.blocks.workers.joined.Given as goal

abbrev pub invariant-loop-worker : goal.invariant-loop-worker
invariant-loop-worker l = record {
  rest : All (λ r. IfOk r (λ its. All (IsRunOn Flow l.fn.stage) its.items)) l.done.items;
  ran : All (IsRunOn Flow l.fn.stage) l.blocks.items;
}

abbrev pub decreases-loop-worker : goal.decreases-loop-worker
decreases-loop-worker l = vec_len l.done
