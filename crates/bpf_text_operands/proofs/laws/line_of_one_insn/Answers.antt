use Rattle.bpf_text_operands.proofs.InsnBack.{one_insn}
use Rattle.bpf_text_operands.proofs.laws.line_of_one_insn.Goals as goal

pub returns : goal.returns
returns c i j a b fits others spelled also same = one_insn i j a b fits others spelled also same
