-- Every pair that meets the condition is kept.
use Rattle.value_range.proofs.RefineContains.{kept, empty}
use Rattle.value_range.proofs.refinement.refine.Goals as goal

pub returns-clause-some : goal.returns-clause-some
returns-clause-some c =
    kept c.args.condition c.args.width c.args.a c.args.b c.refined.result c.refined.ensures.equal
    c.refined.ensures.first
    c.refined.ensures.second

pub returns-clause-none : goal.returns-clause-none
returns-clause-none c =
    empty c.args.condition c.args.width c.args.a c.args.b c.refined.result c.refined.ensures.equal
    c.refined.ensures.first
    c.refined.ensures.second
