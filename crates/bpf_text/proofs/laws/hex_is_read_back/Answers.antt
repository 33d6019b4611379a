use Rattle.bpf_text.proofs.HexBack.{hex_back}
use Rattle.bpf_text.proofs.laws.hex_is_read_back.Goals as goal

pub returns : goal.returns
returns c = hex_back
