use Rattle.bpf_step_model.proofs.AtomicLaws.{left_same, kept_other, told_same}
use Rattle.bpf_step_model.proofs.law_of_atomics.Goals as goal

pub returns : goal.returns
returns c = record { left = left_same; kept = kept_other; tells_same = told_same }
