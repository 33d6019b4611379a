use Rattle.std.proofs.Common.{arith}
use Rattle.bpfspec_serve.proofs.OutputLaws.{answers_reader, given_answers, served_as}
use Rattle.bpfspec_serve.proofs.serving.serve.Goals as goal

pub returns-in-Ok-clause-answer : goal.returns-in-Ok-clause-answer
returns-in-Ok-clause-answer g c =
    served_as _ _ c.memory_text.ensures
    (λ answer given.
    answers_reader c.args.job.now (g.R.Source.left c.args.source.now) _ c.in-Ok.input.items answer
    c.in-Ok.ensures.bytes c.in-Ok.ensures.whole
    (given_answers c.args.job.now _ _ c.answer_job-answer.result answer c.deref.ensures.value
    c.answer_job-answer.ensures given))
    (omega (arith, c.in-Ok.ensures.ok)) c.write_answer.ensures
