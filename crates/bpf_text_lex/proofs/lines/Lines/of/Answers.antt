use Rattle.std.proofs.Common.{arith}
use Rattle.bpf_text_lex.proofs.LineLaws.{length-contents_of}
use Rattle.bpf_text_lex.proofs.lines.Lines.of.Goals as goal

pub returns-clause-few : goal.returns-clause-few
returns-clause-few c = omega (arith, length-contents_of c.as_bytes-text.result.now)
