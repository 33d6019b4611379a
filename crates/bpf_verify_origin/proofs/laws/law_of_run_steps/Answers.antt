use Rattle.bpf_verify_origin.proofs.RunStepLaws.{steps-are_runs}
use Rattle.bpf_verify_origin.proofs.laws.law_of_run_steps.Goals as goal

pub returns : goal.returns
returns c = steps-are_runs c.results_fit.ensures
