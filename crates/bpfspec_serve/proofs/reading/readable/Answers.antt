use Rattle.std.proofs.Common.{ap, Ok, ◌∙◌, arith}
use Rattle.bpfspec_serve.proofs.OutputLaws.{reads_text, refuses_bytes}
use Rattle.bpfspec_serve.proofs.reading.readable.Goals as goal

pub returns-in-Ok : goal.returns-in-Ok
returns-in-Ok c = ap Ok c.in-Ok.ensures.cases.0 ∙ reads_text c.args.input.now (grind arith) c.in-Ok.ensures.cases.1

pub returns-in-Err : goal.returns-in-Err
returns-in-Err c = rw c.unit_refusal-in-Err.ensures (refuses_bytes c.args.input.now (grind arith)
    c.in-Err.ensures.cases.0)
