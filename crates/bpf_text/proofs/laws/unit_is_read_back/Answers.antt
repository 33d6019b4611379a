use Rattle.bpf_text.proofs.UnitBack.{unit_back}
use Rattle.bpf_text.proofs.laws.unit_is_read_back.Goals as goal

pub returns : goal.returns
returns c = unit_back
