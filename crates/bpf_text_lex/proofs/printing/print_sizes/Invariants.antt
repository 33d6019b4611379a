use Rattle.std.{proofs.Common.{◌≡◌, ◌++◌, take}, specs.{List.{flat_map}, String.{string_bytes}}}
use Rattle.bpf_text_lex.specs.PrintedLines.{size_spelling}
use Rattle.bpf_text_lex.proofs.printing.print_sizes.Given as goal

abbrev pub invariant-loop-size : goal.invariant-loop-size
invariant-loop-size l = string_bytes l.out ≡ string_bytes l.fn.out ++ flat_map size_spelling (take l.size-index l.sizes)
