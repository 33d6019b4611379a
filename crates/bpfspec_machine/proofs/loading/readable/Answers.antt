use Rattle.std.proofs.Common.{ap, sym, Ok, ◌∙◌}
use Rattle.bpfspec_machine.proofs.LoadLaws.{reads, refuses}
use Rattle.bpfspec_machine.proofs.loading.readable.Goals as goal

pub returns-in-Ok : goal.returns-in-Ok
returns-in-Ok c = reads c.args.bytes.now c.in-Ok.ensures.cases.1 ∙ ap Ok (sym c.in-Ok.ensures.cases.0)

pub returns-in-Err : goal.returns-in-Err
returns-in-Err c = refuses c.args.bytes.now c.in-Err.ensures.cases.0
