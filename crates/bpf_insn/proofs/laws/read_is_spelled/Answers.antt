use Rattle.bpf_insn.proofs.Programs.{reading_found}
use Rattle.bpf_insn.proofs.laws.read_is_spelled.Goals as goal

pub returns : goal.returns
returns c = λ p bytes fits e. reading_found bytes p fits e
