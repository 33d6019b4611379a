use Rattle.std.{proofs.Common.{◌≡◌, arith}}
use Rattle.bpf_step.proofs.Limits.{few_steps}
use Rattle.loop_core_sequential.proofs.InOrder.{breaks, next, of_callback}
use Rattle.loop_core_sequential.proofs.one_by_one.one_by_one.Goals as goal

pub returns-then-run-eq1-clause-ran : goal.returns-then-run-eq1-clause-ran
returns-then-run-eq1-clause-ran c =
    let ran = rw (c.loop-index.invariant.same, c.requires.ready.callback) at c.run.ensures.ran in
    breaks c.loop-index.invariant.went (of_callback ran) c.args.to c.loop-index-test.true c.if-run-eq1.true

pub loop-index-preserved : goal.loop-index-preserved
loop-index-preserved c =
    let ran = rw (c.loop-index.invariant.same, c.requires.ready.callback) at c.run.ensures.ran in
    let nought : c.run.result.ret ≡ 0 = omega (arith, ran.small, c.if-run-eq1.false) in
    record {
      same = rw c.run.ensures.same c.loop-index.invariant.same;
      count = rw ran.words_are ran.fit.count;
      went = next c.loop-index.invariant.went (of_callback ran) nought (omega arith);
    }

pub run-requires-clause-served : goal.run-requires-clause-served
run-requires-clause-served c = rw (c.loop-index.invariant.same, c.requires.ready.callback)
    (few_steps c.args.run.now.program.now c.args.run.now.call.now.callback c.unit-unit.ensures.accepted)
