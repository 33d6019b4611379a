use Rattle.std.proofs.Common.{refl, sym, ap, subst}
use Rattle.bpf_step_model.specs.Run.{Ended}
use Rattle.loop_core_model.specs.Report.{loop_report}
use Rattle.spec_run_main.{specs.Lines.{AreLines}, proofs.Reported.{report_of}}
use Rattle.spec_run.proofs.by_plan.run_program.Goals as goal

pub run_main-requires-clause-begins : goal.run_main-requires-clause-begins
run_main-requires-clause-begins g c = (refl, c.requires.runs, ap Ended (sym c.new-lines.ensures.items))

pub returns : goal.returns
returns g c =
    let ran = c.in_ok-ret.ensures in
    let program = c.args.program.now in
    let lines = subst (λ test. AreLines (loop_report test program 4096) ran.calls c.run_main.new.runner.lines.items)
    ran.recorded.0 ran.recorded.2 in
    report_of (loop_report c.args.test program 4096) ran lines refl c.requires.sizes
