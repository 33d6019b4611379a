use Rattle.std.{proofs.Common.{sym, subst}, specs.List.{All}}
use Rattle.spec_run_explain.{specs.Causes.{FailsAt}, proofs.CauseLaws.{all_fail}}
use Rattle.spec_run_explain.proofs.call.explain_call.Goals as goal

pub causes_of-requires-clause-failing : goal.causes_of-requires-clause-failing
causes_of-requires-clause-failing c =
    subst (All (FailsAt c.args.test c.args.program.now c.args.call.now c.args.start.now.words))
    (sym c.as_slice.ensures.value)
    (all_fail c.args.test c.args.program.now c.args.call.now c.args.start.now.words _
    c.in_ok-conflicts.conflicts c.in_ok-conflicts.ensures)
