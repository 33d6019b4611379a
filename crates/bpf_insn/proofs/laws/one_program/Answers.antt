use Rattle.bpf_insn.proofs.Programs.{one_program}
use Rattle.bpf_insn.proofs.laws.one_program.Goals as goal

pub returns : goal.returns
returns c = one_program
