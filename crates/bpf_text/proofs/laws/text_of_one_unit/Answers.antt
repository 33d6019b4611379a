use Rattle.bpf_text.proofs.UnitBack.{one_unit}
use Rattle.bpf_text.proofs.laws.text_of_one_unit.Goals as goal

pub returns : goal.returns
returns c = one_unit
