-- Iterations, loops and programs end.
use Rattle.bpf_verify_sound.proofs.ProgramEndings.{each-ends}
use Rattle.bpf_verify_sound.proofs.law_of_accepted_programs.Goals as goal

pub returns : goal.returns
returns c = each-ends c.results_fit.ensures
