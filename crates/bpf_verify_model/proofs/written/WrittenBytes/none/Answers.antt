use Rattle.bpf_verify_model.proofs.MarkLaws.{marks_in_words-zeros}
use Rattle.bpf_verify_model.proofs.written.WrittenBytes.none.Goals as goal

pub returns : goal.returns
returns c = marks_in_words-zeros
