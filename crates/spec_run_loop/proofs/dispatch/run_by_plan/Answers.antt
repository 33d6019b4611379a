use Rattle.std.proofs.Common.{subst}
use Rattle.loop_core_gather.specs.Gathered.{IsOutcome}
use Rattle.spec_run_loop.specs.{declared.decision.LoopAnswer.{LoopAnswer}, Jobs.{JobOf}}
use Rattle.spec_run_loop.proofs.StrategyLaws.{course_so}
use Rattle.spec_run_loop.specs.declared.strategy.StrategyPlan.TheVariants.{Sums, Watched}
use Rattle.spec_run_loop.proofs.SumLaws.{if_told}
use Rattle.spec_run_loop.proofs.dispatch.run_by_plan.Goals as goal

pub returns-in-Sums-clause-outcome : goal.returns-in-Sums-clause-outcome
returns-in-Sums-clause-outcome g c =
    if_told c.in-Sums.of c.args.job.now.program c.args.job.now.call c.args.maps.now c.run_sums.new.maps
    c.run_sums.result c.in-Sums.ensures.may.0 c.in-Sums.ensures.may.1 c.run_sums.ensures.outcome
    c.args.job.now.plan.test

pub returns-in-Sums-clause-strategy : goal.returns-in-Sums-clause-strategy
returns-in-Sums-clause-strategy g c =
    course_so (λ (a : LoopAnswer). a.strategy) c.args.job.now c.elements_of.result c.args.maps.now.words
    (Sums c.in-Sums.of c.in-Sums.workers) c.run_sums.result c.elements_of.ensures.count c.in-Sums.ensures.way
    c.run_sums.ensures.strategy

pub returns-in-Watched-clause-strategy : goal.returns-in-Watched-clause-strategy
returns-in-Watched-clause-strategy g c =
    course_so (λ (a : LoopAnswer). a.strategy) c.args.job.now c.elements_of.result c.args.maps.now.words
    (Watched c.in-Watched.otherwise) c.run_watched.result c.elements_of.ensures.count c.in-Watched.ensures.way
    c.run_watched.ensures.strategy

pub returns-in_ok-decision-in-ByBlocks-clause-outcome : goal.returns-in_ok-decision-in-ByBlocks-clause-outcome
returns-in_ok-decision-in-ByBlocks-clause-outcome g c =
    subst (λ (job : JobOf). IsOutcome job.plan.test job.program job.call c.args.maps.now
    c.apply-verdict.result.verdict c.apply-verdict.result.answer c.apply-verdict.new.maps) c.job.view_is
    c.apply-verdict.ensures
