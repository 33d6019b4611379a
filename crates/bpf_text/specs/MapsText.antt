-- The values of maps as a text: for each map a line `map K: v v`, with K from 0 rising.
use Rattle.std.specs.Prelude.{ℕ, ◌+◌, ◌-◌, ◌^◌, ◌==◌, Vec, ◌&&◌, nat_lt, nat_le, Bool, false, if◌then◌else◌, List, []}
use Rattle.std.specs.{Prelude.{◌∷◌, ◌++◌, length, take, slice_index, map, codes, Result, Ok, Err}, Fmt.{decimal}}
use Rattle.std.specs.{declared.alloc.Global.{Global}, List.{flat_map}, Str.{bytes_eq}}
use Rattle.bpf_text_lex.specs.{Lines.{contents_of}, Words.{words_of}}
use Rattle.bpf_text_lex.specs.{Numbers.{is_number, number_in}, declared.text_error.TextFault.{TextFault}}
use Rattle.bpf_text_lex.specs.{declared.text_error.TextError.{TextError}, Refusals.{at_line, ◌>>=◌}, Fields.{fields_of}}
use Rattle.bpf_text_lex.specs.declared.text_error.TextFault.TheVariants as faults
use Rattle.bpf_text_lex.specs.declared.text_error.TextError.TheVariants as errors

-- maps without where they lie in memory
abbrev pub lists : List (Vec ℕ Global) → List (List ℕ)
lists maps = map (λ (values : Vec ℕ Global). values.items) maps

-- a label without its last byte
abbrev pub label_number : List ℕ → List ℕ
label_number label = take (length label - 1) label

-- a number and a colon
abbrev pub is_map_label : List ℕ → Bool
is_map_label label = (slice_index label (length label - 1) == 58) && is_number (label_number label)

-- whether a line of a maps text may begin with these words
abbrev pub is_map_head : List ℕ → List ℕ → Bool
is_map_head word label = bytes_eq word (codes "map") && is_map_label label

-- whether a label's number is this map's
abbrev pub is_turn : ℕ → Result ℕ TextFault → Bool
is_turn number (Ok n) = n == number
is_turn number (Err error) = false

-- whether values may be those of this map, after `held` values of the maps before it
abbrev pub fits_as_map : (number held : ℕ) → List ℕ → List ℕ → Bool
fits_as_map number held label values =
    is_turn number (number_in (2 ^ 64 - 1) (label_number label))
    && (nat_lt number 16 && (nat_le 1 (length values) && nat_le (held + length values) 65536))

-- numbers as the values of this map
abbrev pub as_values : (number held : ℕ) → List ℕ → Result (List ℕ) TextFault → Result (List ℕ) TextFault
as_values number held label (Err fault) = Err fault
as_values number held label (Ok values) = if fits_as_map number held label values then Ok values else Err faults.Limits

-- the values that the words of a line give, where the line has to be this map's
abbrev pub values_read : (number held : ℕ) → List (List ℕ) → Result (List ℕ) TextFault
values_read number held [] = Err faults.Form
values_read number held (word ∷ []) = Err faults.Form
values_read number held (word ∷ label ∷ words) =
    if is_map_head word label then as_values number held label (fields_of (2 ^ 64 - 1) words) else Err faults.Form

-- how many values maps have together
abbrev pub values_held : List (List ℕ) → ℕ
values_held [] = 0
values_held (values ∷ maps) = length values + values_held maps

-- the maps of earlier lines, and those of these lines after them
unfoldable pub maps_behind : List (List ℕ) → List (ℕ × List ℕ) → Result (List (List ℕ)) TextError
maps_behind before [] = Ok before
maps_behind before (line ∷ lines) = do
  values ← at_line line.0 (values_read (length before) (values_held before) (words_of line.1))
  maps_behind (before ++ values ∷ []) lines

-- maps, of which there has to be one
abbrev pub some_maps : Result (List (List ℕ)) TextError → Result (List (List ℕ)) TextError
some_maps (Err e) = Err e
some_maps (Ok []) = Err (errors.Refused faults.Limits 0)
some_maps (Ok (values ∷ maps)) = Ok (values ∷ maps)

-- what a maps text means
abbrev pub maps_text : List ℕ → Result (List (List ℕ)) TextError
maps_text text = if nat_lt 1048576 (length text) then Err (errors.Refused faults.TooLong 0)
    else some_maps (maps_behind [] (contents_of text))

-- a value after a space
abbrev pub element_spelling : ℕ → List ℕ
element_spelling value = codes " " ++ decimal value

-- a map's line: its number and its values
abbrev pub map_spelling : ℕ → List ℕ → List ℕ
map_spelling number values = codes "map " ++ decimal number ++ codes ":" ++ flat_map element_spelling values
    ++ codes "\n"

-- the lines of maps, the first of which has this number
abbrev pub map_spellings_from : ℕ → List (List ℕ) → List ℕ
map_spellings_from number [] = []
map_spellings_from number (values ∷ maps) = map_spelling number values ++ map_spellings_from (number + 1) maps

-- the one spelling of maps
abbrev pub maps_spelling : List (List ℕ) → List ℕ
maps_spelling maps = map_spellings_from 0 maps
