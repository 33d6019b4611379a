-- Decimal numbers, each of which has one spelling. 45 is a minus sign, 48 the digit 0.
use Rattle.std.specs.Prelude.{ℕ, ◌+◌, ◌-◌, ◌*◌, ◌==◌, ◌&&◌, ◌||◌, nat_lt, nat_le, Bool, if◌then◌else◌, List, [], ◌∷◌}
use Rattle.std.specs.{Prelude.{length, drop, slice_index, Result, Ok, Err}, Char.{is_ascii_digit}, List.{list_all}}
use Rattle.bpf_text_lex.specs.declared.text_error.TextFault.{TextFault, TheVariants.{Form, Field}}

-- digits with no zero in front, or a digit alone
abbrev pub is_numeral : List ℕ → Bool
is_numeral word = list_all is_ascii_digit word && ((length word == 1) || nat_lt 48 (slice_index word 0))

-- a minus sign before a numeral that isn't 0
abbrev pub is_negative : List ℕ → Bool
is_negative word = (slice_index word 0 == 45) && (nat_lt 48 (slice_index word 1) && is_numeral (drop 1 word))

-- a number, of any size
abbrev pub is_number : List ℕ → Bool
is_number word = is_numeral word || is_negative word

-- the number that the digits spell when they follow those of n
abbrev pub value_after : ℕ → List ℕ → ℕ
value_after n [] = n
value_after n (b ∷ bs) = value_after (10 * n + (b - 48)) bs

-- the number that the digits spell
abbrev pub value_of : List ℕ → ℕ
value_of digits = value_after 0 digits

-- the number of a word in a field whose numbers are 0 to limit
abbrev pub number_in : ℕ → List ℕ → Result ℕ TextFault
number_in limit word =
    if is_numeral word then (if nat_le (value_of word) limit then Ok (value_of word) else Err Field)
    else if is_negative word then Err Field
    else Err Form
