use Rattle.bpf_text_operands.proofs.InsnBack.{insn_back}
use Rattle.bpf_text_operands.proofs.laws.line_is_read_back.Goals as goal

pub returns : goal.returns
returns c i slots find slot fits spelled = insn_back find slot i slots fits spelled
