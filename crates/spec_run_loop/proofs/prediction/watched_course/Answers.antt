use Rattle.std.proofs.Common.{ℕ, List, refl, ap, subst}
use Rattle.array_maps.specs.MapList.{MapList}
use Rattle.loop_core_sequential.specs.Watched.{RanAndPasses, ReachesWritten}
use Rattle.spec_run_loop.specs.{Jobs.{JobOf}, Strategies.{IsWatchedStrategy, ToTheEnd, GivenUp}}
use Rattle.spec_run_loop.proofs.prediction.watched_course.Goals as goal

pub returns-in-Passed : goal.returns-in-Passed
returns-in-Passed c =
    let maps = c.in_ok-maps.maps in
    let left = c.in_order_watched.new.maps in
    let answer = c.in-Passed._answer in
    ToTheEnd maps left answer (ap (λ (m : MapList). m.words) c.in_ok-maps.ensures)
    (subst (λ (job : JobOf). RanAndPasses job.program job.call maps left answer) c.job.view_is c.in-Passed.ensures) refl

pub returns : goal.returns
returns c =
    let maps = c.in_ok-maps.maps in
    GivenUp maps (ap (λ (m : MapList). m.words) c.in_ok-maps.ensures)
    (subst (λ (job : JobOf). ReachesWritten job.program job.call maps) c.job.view_is c.in-Dependent.ensures.1.reaches)
    c.strategy.ensures

pub returns-then-branch : goal.returns-then-branch
returns-then-branch c =
    subst (λ (words : List ℕ). IsWatchedStrategy c.args.job.now words c.args.otherwise.now
    c.run_independent.result.strategy) (ap (λ (m : MapList). m.words) c.in_ok-maps.ensures)
    (c.run_independent.ensures.strategy c.args.otherwise.now)
