use Rattle.std.proofs.Common.{rules, ◌≡◌, ◌∙◌, ap, sym}
use Rattle.bpfspec_command_line.specs.declared.job.Job.TheVariants.{Facts}
use Rattle.bpfspec_serve.{specs.Answering.{memory_text}, proofs.OutputLaws.{memory_record}}
use Rattle.bpfspec_serve.proofs.serving.memory_text.Goals as goal

pub returns-in-Facts : goal.returns-in-Facts
returns-in-Facts c =
    let is : c.args.job.now ≡ Facts c.in-Facts.field-0 = search rules in
    memory_record ∙ ap memory_text (sym is)
