-- The hex form of a unit, read: a first line of sizes, then lines of hex digits.
use Rattle.std.specs.Prelude.{ℕ, ◌+◌, nat_lt, nat_le, if◌then◌else◌, List, [], ◌∷◌, ◌++◌, length, Result, Ok, Err}
use Rattle.hex.specs.{declared.error.FromHexError.{FromHexError}, Hex.{decode_of}}
use Rattle.bpf_text_lex.specs.{Lines.{contents_of}, Words.{words_of}, declared.text_error.TextFault.{TextFault}}
use Rattle.bpf_text_lex.specs.{declared.text_error.TextError.{TextError}, Refusals.{at_line, ◌>>=◌}, Head.{head_of}}
use Rattle.bpf_text_lex.specs.declared.text_error.TextFault.TheVariants as faults
use Rattle.bpf_text_lex.specs.declared.text_error.TextError.TheVariants as errors

-- the maps' sizes and the instructions' bytes
pub record SizesAndBytes : Type 0 where
  pub sizes : List ℕ
  pub bytes : List ℕ

-- decoded bytes after `before` others, of which a unit has at most 32,768
abbrev pub as_bytes : ℕ → Result (List ℕ) FromHexError → Result (List ℕ) TextFault
as_bytes before (Err error) = Err faults.Form
as_bytes before (Ok bytes) = if nat_le (before + length bytes) 32768 then Ok bytes else Err faults.TooLong

-- the bytes that the words of a line give: one word of an even number of hex digits in either case
abbrev pub bytes_of_lines : ℕ → List (List ℕ) → Result (List ℕ) TextFault
bytes_of_lines before [] = Err faults.Form
bytes_of_lines before (word ∷ []) = as_bytes before (decode_of word)
bytes_of_lines before (word ∷ other ∷ words) = Err faults.Form

-- the bytes of earlier lines, and those of these lines after them
unfoldable pub bytes_behind : List ℕ → List (ℕ × List ℕ) → Result (List ℕ) TextError
bytes_behind before [] = Ok before
bytes_behind before (line ∷ lines) = do
  bytes ← at_line line.0 (bytes_of_lines (length before) (words_of line.1))
  bytes_behind (before ++ bytes) lines

-- the parts that lines give, the first of which is the head
unfoldable pub hex_parts_of : List (ℕ × List ℕ) → Result SizesAndBytes TextError
hex_parts_of [] = Err (errors.Refused faults.Form 0)
hex_parts_of (line ∷ lines) = do
  sizes ← at_line line.0 (head_of (words_of line.1))
  bytes ← bytes_behind [] lines
  Ok (record { sizes = sizes; bytes = bytes })

-- what a text in hex form means
abbrev pub hex_text : List ℕ → Result SizesAndBytes TextError
hex_text text = if nat_lt 1048576 (length text) then Err (errors.Refused faults.TooLong 0)
    else hex_parts_of (contents_of text)
