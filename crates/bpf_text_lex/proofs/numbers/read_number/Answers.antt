use Rattle.std.proofs.Common.{ap, ◌∙◌, arith}
use Rattle.bpf_text_lex.{specs.Numbers.{number_in}, proofs.SpellingLaws.{spelled_if, in_field}}
use Rattle.bpf_text_lex.proofs.numbers.read_number.Goals as goal

pub returns-clause-spelling : goal.returns-clause-spelling
returns-clause-spelling c = spelled_if c.args.limit c.args.word.now c.number_in.result (omega arith) c.number_in.ensures

pub returns-clause-only : goal.returns-clause-only
returns-clause-only c n le same = c.number_in.ensures ∙ ap (number_in c.args.limit) same
    ∙ in_field c.args.limit n (omega arith) le
