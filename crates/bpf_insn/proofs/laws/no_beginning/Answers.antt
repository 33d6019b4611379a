use Rattle.bpf_insn.proofs.Programs.{no_front}
use Rattle.bpf_insn.proofs.laws.no_beginning.Goals as goal

pub returns : goal.returns
returns c = no_front
