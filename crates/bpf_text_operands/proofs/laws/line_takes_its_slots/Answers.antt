use Rattle.bpf_text_operands.proofs.LineSlots.{line_slots}
use Rattle.bpf_text_operands.proofs.laws.line_takes_its_slots.Goals as goal

pub returns : goal.returns
returns c i find slot line read = line_slots find slot line i read
