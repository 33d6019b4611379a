use Rattle.std.{proofs.Common.{◌≡◌, ◌++◌, take}, specs.{List.{flat_map}, String.{string_bytes}}}
use Rattle.bpf_text_lex.specs.PrintedLines.{insn_line}
use Rattle.bpf_text.proofs.assembler_printing.print_insns.Given as goal

abbrev pub invariant-loop-insn : goal.invariant-loop-insn
invariant-loop-insn l = string_bytes l.out ≡ string_bytes l.fn.out ++ flat_map insn_line (take l.insn-index l.insns)
