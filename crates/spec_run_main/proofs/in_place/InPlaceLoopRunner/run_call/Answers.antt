use Rattle.std.proofs.{Common.{rules, w64, take, refl, ap, ◌∙◌}, lemmas.Int.{to_z-of_z}}
use Rattle.loop_core_model.specs.Report.{loop_report_in_order}
use Rattle.spec_run_main.proofs.ReportLines.{valid_line}
use Rattle.spec_run_main.proofs.in_place.InPlaceLoopRunner.run_call.Goals as goal

pub returns-clause-recorded : goal.returns-clause-recorded
returns-clause-recorded c = λ first calls made is before. (
  before.0,
  c.add_line-self.ensures.room ∙ before.1,
  valid_line loop_report_in_order made c.in_order-answer.result c.args.maps.now.words calls refl
      (c.slot.ensures ∙ is.filled.slot) (to_z-of_z w64 c.from.result (search rules) ∙ c.from.ensures)
      (ap (λ n. take n c.add_line-self.new.lines) c.add_line-self.ensures.count ∙ c.add_line-self.ensures.added)
      before.2,
)
