use Rattle.bpf_text.proofs.HexBack.{one_unit}
use Rattle.bpf_text.proofs.laws.hex_of_one_unit.Goals as goal

pub returns : goal.returns
returns c = one_unit
