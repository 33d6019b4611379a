use Rattle.std.proofs.Common.{refl, sym, subst}
use Rattle.loop_core_model.specs.Report.{loop_report}
use Rattle.spec_run_main.proofs.Reported.{report_of}
use Rattle.spec_run_explain.specs.{Causes.{IsEachExplained}, Programs.{AreExplainedSoFar}}
use Rattle.spec_run_explain.proofs.driver.explain_loops.Goals as goal

pub returns : goal.returns
returns c =
    let ran = c.in_ok-ret.ensures in
    let program = c.args.program.now in
    let left = c.run_main.new.runner in
    let wants = c.args.wants_grid in
    let by_test = subst (λ test. AreExplainedSoFar test program left.most wants ran.calls left.lines.items
    left.loops.items) ran.recorded.0 ran.recorded.3 in
    let so_far = subst (λ most. AreExplainedSoFar c.args.test program most wants ran.calls left.lines.items
    left.loops.items) ran.recorded.1 by_test in
    record {
      report = report_of (loop_report c.args.test program 4096) ran so_far.reported refl c.requires.sizes;
      lines = so_far.lines_are;
      explained = subst (λ e. IsEachExplained c.args.test program c.args.most wants e left.loops.items) (sym ran.gives)
          so_far.explained;
    }
