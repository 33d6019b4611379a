-- The first line of a unit: `maps` and the number of elements of each map.
use Rattle.std.specs.Prelude.{ℕ, if◌then◌else◌, List, codes, Result, Ok, Err}
use Rattle.bpf_insn_types.specs.Limits.{sizes_fit}
use Rattle.bpf_text_lex.specs.{declared.text_error.TextFault.{TextFault}, Fields.{fields_after}}
use Rattle.bpf_text_lex.specs.declared.text_error.TextFault.TheVariants as faults

-- numbers as the sizes of maps
abbrev pub as_sizes : Result (List ℕ) TextFault → Result (List ℕ) TextFault
as_sizes (Err fault) = Err fault
as_sizes (Ok sizes) = if sizes_fit sizes then Ok sizes else Err faults.Limits

-- the sizes that the words of a first line give
abbrev pub head_of : List (List ℕ) → Result (List ℕ) TextFault
head_of words = as_sizes (fields_after (codes "maps") words)
