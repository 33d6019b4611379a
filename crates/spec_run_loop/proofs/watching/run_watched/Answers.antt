use Rattle.std.proofs.Common.{refl, sym, ap, subst}
use Rattle.array_maps.specs.MapList.{MapList}
use Rattle.loop_core_model.specs.declared.loop_test.Test.{Test}
use Rattle.loop_core_model.specs.declared.loop_test.Test.TheVariants as tests
use Rattle.loop_core_sequential.specs.Watched.{RanAndPasses, ReachesWritten}
use Rattle.loop_core_gather.specs.Gathered.{IsOutcome}
use Rattle.spec_run_loop.specs.{declared.decision.LoopAnswer.{LoopAnswer}, Strategies.{ToTheEnd, GivenUp}, Jobs.{JobOf}}
use Rattle.spec_run_loop.proofs.PassLaws.{passed_in_order}
use Rattle.spec_run_loop.proofs.watching.run_watched.Goals as goal

pub returns-in-Passed-clause-outcome : goal.returns-in-Passed-clause-outcome
returns-in-Passed-clause-outcome g c =
    let left = c.in_order_watched.new.maps in
    subst (λ (test : Test). IsOutcome test c.args.job.now.program c.args.job.now.call c.args.maps.now
    c.passed.result.verdict c.passed.result.answer left) (sym c.requires.flow)
    (subst (λ (job : JobOf). IsOutcome tests.Flow job.program job.call c.args.maps.now c.passed.result.verdict
    c.passed.result.answer left) c.job.view_is
    (passed_in_order c.job.inside.program.now c.job.inside.call.now c.args.maps.now left c.in-Passed.answer
    _ c.passed.result c.passed.ensures c.in-Passed.ensures))

pub returns-clause-outcome : goal.returns-clause-outcome
returns-clause-outcome g c =
    subst (λ (start : MapList). IsOutcome c.args.job.now.plan.test c.args.job.now.program c.args.job.now.call start
    c.carry_out_from-verdict.result.verdict c.carry_out_from-verdict.result.answer c.carry_out_from-verdict.new.maps)
    c.in-Dependent.ensures.0 c.carry_out_from-verdict.ensures

pub returns-in-Passed-clause-strategy : goal.returns-in-Passed-clause-strategy
returns-in-Passed-clause-strategy g c =
    let start = c.args.maps.now in
    let left = c.in_order_watched.new.maps in
    ToTheEnd start left c.in-Passed.answer refl
    (subst (λ (job : JobOf). RanAndPasses job.program job.call start left c.in-Passed.answer) c.job.view_is
    c.in-Passed.ensures)
    (ap (λ (a : LoopAnswer). a.strategy) c.passed.ensures)

pub returns-clause-strategy : goal.returns-clause-strategy
returns-clause-strategy g c =
    let start = c.args.maps.now in
    GivenUp start refl
    (subst (λ (job : JobOf). ReachesWritten job.program job.call start) c.job.view_is c.in-Dependent.ensures.1.reaches)
    c.strategy.ensures

pub returns-then-branch-clause-strategy : goal.returns-then-branch-clause-strategy
returns-then-branch-clause-strategy g c = c.run_independent.ensures.strategy c.args.otherwise.now
