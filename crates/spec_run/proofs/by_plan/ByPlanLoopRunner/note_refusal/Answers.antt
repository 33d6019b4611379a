use Rattle.std.proofs.{Common.{rules, w64, refl}, lemmas.Int.{to_z-of_z}}
use Rattle.loop_core_model.specs.Report.{loop_report}
use Rattle.spec_run_main.proofs.ReportLines.{refused_line}
use Rattle.spec_run.proofs.by_plan.ByPlanLoopRunner.note_refusal.Goals as goal

pub returns-clause-recorded : goal.returns-clause-recorded
returns-clause-recorded g c = λ program first calls words before. (
  before.0,
  before.1,
  refused_line (loop_report c.args.self.now.test program 4096) words calls refl
      (to_z-of_z w64 c.args.call.answer (search rules)) c.in_ok-push.ensures.items before.2,
)
