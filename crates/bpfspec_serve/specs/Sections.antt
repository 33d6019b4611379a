-- The sections of an input: lines that are exactly `%%` part them. A text is its bytes: 10 is a newline.
use Rattle.std.specs.{Prelude.{ℕ, ◌==◌, ◌||◌, Bool, if◌then◌else◌, List, [], ◌∷◌, ◌++◌, codes}, List.{concat}}
use Rattle.std.specs.Str.{bytes_eq}
use Rattle.bpf_text_lex.specs.Lines.{with_front}

-- the lines of a text, each with its newline, which the last may lack
abbrev pub whole_lines : List ℕ → List (List ℕ)
whole_lines [] = []
whole_lines (b ∷ bs) = if b == 10 then (b ∷ []) ∷ whole_lines bs else with_front b (whole_lines bs)

-- a line that parts sections
abbrev pub is_mark : List ℕ → Bool
is_mark line = bytes_eq line (codes "%%\n") || bytes_eq line (codes "%%")

-- the bytes of the lines before the first mark
abbrev pub before_mark : List (List ℕ) → List ℕ
before_mark [] = []
before_mark (line ∷ lines) = if is_mark line then [] else line ++ before_mark lines

-- the lines after it: none where there is no mark
abbrev pub behind_mark : List (List ℕ) → List (List ℕ)
behind_mark [] = []
behind_mark (line ∷ lines) = if is_mark line then lines else behind_mark lines

-- the first section, the second, and all that comes after it; each is empty where there is none
abbrev pub unit_section : List ℕ → List ℕ
unit_section input = before_mark (whole_lines input)

abbrev pub maps_section : List ℕ → List ℕ
maps_section input = before_mark (behind_mark (whole_lines input))

abbrev pub events_section : List ℕ → List ℕ
events_section input = concat (behind_mark (behind_mark (whole_lines input)))
