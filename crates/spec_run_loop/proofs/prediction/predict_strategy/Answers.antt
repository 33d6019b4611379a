use Rattle.std.proofs.Common.{refl}
use Rattle.loop_core_split.specs.declared.strategy.Strategy.{Strategy}
use Rattle.loop_core_split.specs.declared.strategy.Strategy.TheVariants as strategies
use Rattle.spec_run_loop.specs.declared.strategy.StrategyPlan.TheVariants.{Sums, Watched, ByBlocks}
use Rattle.spec_run_loop.proofs.StrategyLaws.{goes_so, course_so}
use Rattle.spec_run_loop.proofs.prediction.predict_strategy.Goals as goal

pub returns-in-Sums : goal.returns-in-Sums
returns-in-Sums c =
    goes_so c.args.job.now c.elements_of.result c.args.start.now.words (Sums c.in-Sums._of c.in-Sums.workers)
    (strategies.Sums c.in-Sums.workers) c.elements_of.ensures.count c.in-Sums.ensures.way refl

pub returns-in-Watched : goal.returns-in-Watched
returns-in-Watched c =
    course_so (λ (strategy : Strategy). strategy) c.args.job.now c.elements_of.result c.args.start.now.words
    (Watched c.in-Watched.otherwise) c.watched_course.result c.elements_of.ensures.count c.in-Watched.ensures.way
    c.watched_course.ensures

pub returns-in-ByBlocks : goal.returns-in-ByBlocks
returns-in-ByBlocks c =
    goes_so c.args.job.now c.elements_of.result c.args.start.now.words (ByBlocks c.in-ByBlocks.blocks) c.strategy.result
    c.elements_of.ensures.count c.in-ByBlocks.ensures.way c.strategy.ensures
