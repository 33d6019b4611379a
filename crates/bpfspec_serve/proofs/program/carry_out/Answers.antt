use Rattle.std.proofs.Common.{ap, refl}
use Rattle.bpfspec_command_line.specs.Faults.{is_help}
use Rattle.bpfspec_serve.specs.HowRan.{Serves, Helps, No_memory}
use Rattle.bpfspec_serve.proofs.program.carry_out.Goals as goal

pub returns-in-Ok : goal.returns-in-Ok
returns-in-Ok g c = Serves c.in-Ok.ensures.request.0 c.in-Ok.request c.serve_request.result c.in-Ok.ensures.request.1
    refl c.serve_request.ensures

pub returns-in-Err-Help : goal.returns-in-Err-Help
returns-in-Err-Help g c =
    let asked = c.in-Err-Help.ensures.help (ap is_help c.in-Err-Help.field-0-is) in
    Helps asked.0 _ c.write.result asked.1 refl c.write.ensures

pub returns-in-Err-Memory : goal.returns-in-Err-Memory
returns-in-Err-Memory g c = No_memory c.write-in-Err-Memory.result refl c.write-in-Err-Memory.ensures
