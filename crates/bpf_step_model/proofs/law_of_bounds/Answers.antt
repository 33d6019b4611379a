use Rattle.bpf_step_model.proofs.BoundLaws.{greater_bound_agrees}
use Rattle.bpf_step_model.proofs.law_of_bounds.Goals as goal

pub returns : goal.returns
returns c = greater_bound_agrees
