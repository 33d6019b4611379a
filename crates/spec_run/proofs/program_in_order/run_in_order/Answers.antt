use Rattle.std.proofs.Common.{rules}
use Rattle.loop_core_model.specs.Report.{loop_report_in_order}
use Rattle.spec_run_main.proofs.Reported.{report_of}
use Rattle.spec_run.proofs.program_in_order.run_in_order.Goals as goal

pub returns-clause-ran : goal.returns-clause-ran
returns-clause-ran c =
    let ran = c.in_ok-ret.ensures in
    report_of loop_report_in_order ran ran.recorded c.in_ok-left.ensures (search rules)
