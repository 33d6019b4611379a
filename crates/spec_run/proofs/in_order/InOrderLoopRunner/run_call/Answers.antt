use Rattle.std.proofs.{Common.{rules, w64, refl, ◌∙◌}, lemmas.Int.{to_z-of_z}}
use Rattle.loop_core_model.specs.Report.{loop_report_in_order}
use Rattle.spec_run_main.proofs.ReportLines.{valid_line}
use Rattle.spec_run.proofs.in_order.InOrderLoopRunner.run_call.Goals as goal

pub returns-clause-recorded : goal.returns-clause-recorded
returns-clause-recorded c = λ first calls made is before.
    valid_line loop_report_in_order made c.in_order-answer.result c.args.maps.now.words calls refl
    (c.slot.ensures ∙ is.filled.slot) (to_z-of_z w64 c.from.result (search rules) ∙ c.from.ensures)
    c.in_ok-push.ensures.items before
