use Rattle.std.proofs.Common.{◌≡◌, true, IfOk, subst}
use Rattle.loop_inspector.specs.Independent.{AlwaysPasses}
use Rattle.spec_run_loop.specs.Jobs.{JobOf}
use Rattle.spec_run_loop.proofs.watching.never_conflicts.Goals as goal

pub returns : goal.returns
returns c =
    subst (λ (job : JobOf). IfOk c.is_independent.result (λ found. found ≡ true → AlwaysPasses job.program job.call))
    c.job.view_is c.is_independent.ensures
