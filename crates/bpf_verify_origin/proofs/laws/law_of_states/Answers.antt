use Rattle.bpf_verify_origin.proofs.RunLaws.{states-hold}
use Rattle.bpf_verify_origin.proofs.laws.law_of_states.Goals as goal

pub returns : goal.returns
returns c = states-hold c.results_fit.ensures
