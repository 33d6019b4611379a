use Rattle.std.proofs.Common.{◌≡◌, ◌≤◌, drop}
use Rattle.bpf_text_lex.specs.Numbers.{value_after, value_of}
use Rattle.bpf_text_lex.proofs.numbers.value_up_to.Given as goal

abbrev pub invariant-loop-b : goal.invariant-loop-b
invariant-loop-b l = record {
  so_far : value_after l.value (drop l.b-index l.digits) ≡ value_of l.digits;
  within : l.value ≤ l.limit;
}
