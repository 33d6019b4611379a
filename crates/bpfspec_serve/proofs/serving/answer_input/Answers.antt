use Rattle.std.{proofs.lemmas.Result.{IfOk-weaker}, specs.String.{string_bytes}}
use Rattle.bpfspec_serve.{specs.Output.{InMode}, proofs.OutputLaws.{text_answers}}
use Rattle.bpfspec_serve.proofs.serving.answer_input.Goals as goal

pub returns : goal.returns
returns c =
    IfOk-weaker c.answer_to.result _ _
    (λ answer given. text_answers string_bytes (InMode c.args.mode.now) c.args.input.now c.outcome.result _
    c.outcome.ensures given) c.answer_to.ensures
