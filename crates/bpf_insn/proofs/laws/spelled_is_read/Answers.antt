use Rattle.bpf_insn.proofs.Programs.{reading_again}
use Rattle.bpf_insn.proofs.laws.spelled_is_read.Goals as goal

pub returns : goal.returns
returns c = reading_again
