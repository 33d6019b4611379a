use Rattle.std.{proofs.Common.{◌≡◌, length}, specs.List.{list_all}}
use Rattle.bpf_text_lex.specs.Numbers.{is_number}
use Rattle.bpf_text_lex.proofs.fields.are_numbers.Given as goal

abbrev pub invariant-loop-word : goal.invariant-loop-word
invariant-loop-word l = list_all is_number l.words ≡ list_all is_number l.initial.words

abbrev pub decreases-loop-word : goal.decreases-loop-word
decreases-loop-word l = length l.words
