use Rattle.bpf_verify_origin.proofs.RunSourceLaws.{sources-hold}
use Rattle.bpf_verify_origin.proofs.laws.law_of_sources.Goals as goal

pub returns : goal.returns
returns c = sources-hold c.results_fit.ensures
