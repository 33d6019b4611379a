use Rattle.std.{proofs.{Common.{rules, ◌≡◌}, lemmas.Result.{IfOk-weaker}}, specs.String.{string_bytes}}
use Rattle.bpfspec_command_line.specs.declared.job.Job.TheVariants.{Facts, Run, Serve}
use Rattle.bpfspec_serve.{specs.Output.{ByPlan}, proofs.OutputLaws.{text_answers}}
use Rattle.bpfspec_serve.proofs.serving.answer_job.Goals as goal

pub returns-in-Serve : goal.returns-in-Serve
returns-in-Serve g c =
    let is : c.args.job.now ≡ Serve c.in-Serve.mode = search rules in
    rw is c.answer_input.ensures

pub returns-in-Run : goal.returns-in-Run
returns-in-Run g c =
    let is : c.args.job.now ≡ Run c.in-Run.form c.in-Run.arg c.in-Run.plan = search rules in
    rw is (IfOk-weaker c.answer_to.result _ _
    (λ answer given. text_answers string_bytes (ByPlan c.in-Run.form c.in-Run.arg c.in-Run.plan) c.args.input.now
    c.run_outcome-ran.result _ c.run_outcome-ran.ensures given) c.answer_to.ensures)

pub returns-in-Facts : goal.returns-in-Facts
returns-in-Facts g c =
    let is : c.args.job.now ≡ Facts c.in-Facts.ask = search rules in
    rw is c.answer_facts.ensures
