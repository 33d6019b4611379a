use Rattle.std.proofs.Common.{◌≡◌, length}
use Rattle.bpf_text_lex.{specs.Fields.{numbers_in}, proofs.RefusalLaws.{with_front}}
use Rattle.bpf_text_lex.proofs.fields.read_numbers.Given as goal

abbrev pub invariant-loop-word : goal.invariant-loop-word
invariant-loop-word l = with_front l.numbers.items (numbers_in l.limit l.words) ≡ numbers_in l.limit l.initial.words

abbrev pub decreases-loop-word : goal.decreases-loop-word
decreases-loop-word l = length l.words
