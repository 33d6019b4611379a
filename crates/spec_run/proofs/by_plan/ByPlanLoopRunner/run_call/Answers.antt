use Rattle.std.proofs.{Common.{rules, w64, ◌∙◌}, lemmas.Int.{to_z-of_z}}
use Rattle.loop_core_model.specs.Report.{loop_report}
use Rattle.spec_run_main.proofs.ReportLines.{valid_line}
use Rattle.spec_run.proofs.CallLaws.{ran_of}
use Rattle.spec_run.proofs.by_plan.ByPlanLoopRunner.run_call.Goals as goal

pub run_one-requires : goal.run_one-requires
run_one-requires g c = c.requires.recorded.2.1.may c.args.call.now c.args.maps.now c.requires.known c.requires.sizes

pub returns-clause-ran : goal.returns-clause-ran
returns-clause-ran g c =
    (ran_of c.requires.recorded.2.1 c.requires.known c.requires.sizes c.run_one.ensures c.in_ok-answered.was).ran

pub returns-clause-recorded : goal.returns-clause-recorded
returns-clause-recorded g c = λ first calls made is before.
    let ran =
    ran_of c.requires.recorded.2.1 c.requires.known c.requires.sizes c.run_one.ensures c.in_ok-answered.was in (
      before.0,
      before.1,
      valid_line (loop_report c.args.self.now.test c.args.program.now 4096) made c.in_ok-answered.answered.answer
          c.args.maps.now.words calls (ran.line made is.filled c.requires.known is.fit)
          (c.slot.ensures ∙ is.filled.slot) (to_z-of_z w64 c.from.result (search rules) ∙ c.from.ensures)
          c.in_ok-push.ensures.items before.2,
    )
