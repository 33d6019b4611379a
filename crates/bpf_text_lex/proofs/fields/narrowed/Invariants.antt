use Rattle.std.proofs.Common.{◌≡◌, take}
use Rattle.bpf_text_lex.proofs.fields.narrowed.Given as goal

abbrev pub invariant-loop-number : goal.invariant-loop-number
invariant-loop-number l = l.narrow.items ≡ take l.number-index l.numbers
