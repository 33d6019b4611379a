use Rattle.std.proofs.{Common.{rules, w64, take, refl, ap, ◌∙◌}, lemmas.Int.{to_z-of_z}}
use Rattle.loop_core_model.specs.Report.{loop_report_in_order}
use Rattle.spec_run_main.proofs.ReportLines.{refused_line}
use Rattle.spec_run_main.proofs.in_place.InPlaceLoopRunner.note_refusal.Goals as goal

pub returns-clause-recorded : goal.returns-clause-recorded
returns-clause-recorded c = λ program first calls words before. (
  before.0,
  c.add_line-self.ensures.room ∙ before.1,
  refused_line loop_report_in_order words calls refl (to_z-of_z w64 c.args.call.answer (search rules))
      (ap (λ n. take n c.add_line-self.new.lines) c.add_line-self.ensures.count ∙ c.add_line-self.ensures.added)
      before.2,
)
