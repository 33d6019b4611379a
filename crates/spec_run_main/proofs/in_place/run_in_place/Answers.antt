use Rattle.std.proofs.Common.{rules, ◌≡◌, List, take, refl, subst}
use Rattle.loop_core_model.specs.{declared.verdict.LoopReport.{LoopReport}, Report.{loop_report_in_order}}
use Rattle.spec_run_main.{specs.Lines.{AreLines}, proofs.Reported.{report_of}}
use Rattle.spec_run_main.proofs.in_place.run_in_place.Goals as goal

pub returns-clause-ran : goal.returns-clause-ran
returns-clause-ran c =
    let ran = c.in-Ok.ensures in
    let same : c.run_main.new.runner.lines.now ≡ c.lines-1.given.0 = search rules in
    report_of loop_report_in_order ran (subst (λ (lines : List LoopReport).
    AreLines loop_report_in_order ran.calls (take c.run_main.new.runner.calls lines)) same ran.recorded.2) refl
    c.requires.sizes
