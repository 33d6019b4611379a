use Rattle.std.proofs.Common.{rules, ◌≡◌, Ok, refl}
use Rattle.bpfspec_serve.specs.{Answering.{answer_of}, HowServed.{Answered}}
use Rattle.bpfspec_serve.proofs.serving.write_answer.Goals as goal

pub returns-in-Ok : goal.returns-in-Ok
returns-in-Ok g c =
    let is : c.args.given ≡ Ok c.in-Ok.answer = search rules in
    Answered (answer_of c.in-Ok.answer) (rw is refl) refl (rw (← c.as_bytes.ensures.value) c.write.ensures)
