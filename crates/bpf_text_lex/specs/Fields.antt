-- Lines of numbers.
use Rattle.std.specs.{Prelude.{ℕ, ◌-◌, ◌^◌, if◌then◌else◌, List, [], ◌∷◌, Result, Ok, Err}, List.{list_all}}
use Rattle.std.specs.Str.{bytes_eq}
use Rattle.bpf_text_lex.specs.{declared.text_error.TextFault.{TextFault}, Refusals.{with_first_item}}
use Rattle.bpf_text_lex.specs.Numbers.{is_number, number_in}
use Rattle.bpf_text_lex.specs.declared.text_error.TextFault.TheVariants as faults

-- the numbers of words, each in a field of 0 to limit
abbrev pub numbers_in : ℕ → List (List ℕ) → Result (List ℕ) TextFault
numbers_in limit [] = Ok []
numbers_in limit (word ∷ words) = with_first_item (number_in limit word) (numbers_in limit words)

-- the same, where a word that is no number comes before one outside its field
abbrev pub fields_of : ℕ → List (List ℕ) → Result (List ℕ) TextFault
fields_of limit words = if list_all is_number words then numbers_in limit words else Err faults.Form

-- the numbers of 32 bits that come after the first word of a line, which is this one
abbrev pub fields_after : List ℕ → List (List ℕ) → Result (List ℕ) TextFault
fields_after first [] = Err faults.Form
fields_after first (word ∷ words) = if bytes_eq word first then fields_of (2 ^ 32 - 1) words else Err faults.Form
