-- The numbers of a text's faults, by which they are printed and the least of several is found.
use Rattle.std.specs.Prelude.{ℕ}
use Rattle.bpf_text_lex.specs.declared.text_error.TextFault.{TextFault}
use Rattle.bpf_text_lex.specs.declared.text_error.TextFault.TheVariants as faults

-- a fault's number
abbrev pub text_fault_number : TextFault → ℕ
text_fault_number faults.Form = 1
text_fault_number faults.Field = 2
text_fault_number faults.Register = 3
text_fault_number faults.UnknownLabel = 4
text_fault_number faults.RepeatedLabel = 5
text_fault_number faults.TooLong = 6
text_fault_number faults.Limits = 7
