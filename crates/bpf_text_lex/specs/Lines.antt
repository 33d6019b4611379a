-- The lines of a text, without comments and outer blanks. A text is its bytes: 10 is a newline, 59 a
-- semicolon, 32 a space and 9 a tab.
use Rattle.std.specs.Prelude.{ℕ, ◌+◌, ◌==◌, ◌||◌, Bool, if◌then◌else◌, List, [], ◌∷◌}

-- the first line with one more byte at its front, or that byte as the only line where there is none
abbrev pub with_front : ℕ → List (List ℕ) → List (List ℕ)
with_front b [] = (b ∷ []) ∷ []
with_front b (line ∷ lines) = (b ∷ line) ∷ lines

-- the lines of a text: a line ends at a newline, which isn't part of it, or at the end of the text
abbrev pub lines_of : List ℕ → List (List ℕ)
lines_of [] = []
lines_of (b ∷ bs) = if b == 10 then [] ∷ lines_of bs else with_front b (lines_of bs)

-- a line up to its comment, which begins at the first semicolon
abbrev pub before_comment : List ℕ → List ℕ
before_comment [] = []
before_comment (b ∷ bs) = if b == 59 then [] else b ∷ before_comment bs

-- a blank is a space or a tab
abbrev pub is_blank : ℕ → Bool
is_blank b = (b == 32) || (b == 9)

-- without the blanks at the front
abbrev pub trim_start : List ℕ → List ℕ
trim_start [] = []
trim_start (b ∷ bs) = if is_blank b then trim_start bs else b ∷ bs

-- a byte before what is kept after it: a blank before nothing is dropped too
abbrev pub before_kept : ℕ → List ℕ → List ℕ
before_kept b [] = if is_blank b then [] else b ∷ []
before_kept b (c ∷ cs) = b ∷ c ∷ cs

-- without the blanks at the end
abbrev pub trim_end : List ℕ → List ℕ
trim_end [] = []
trim_end (b ∷ bs) = before_kept b (trim_end bs)

-- without the blanks at both ends
abbrev pub trim : List ℕ → List ℕ
trim bytes = trim_end (trim_start bytes)

-- what a line says: no comment, and no blanks round it
abbrev pub content_of : List ℕ → List ℕ
content_of line = trim (before_comment line)

-- a content at the front of the others under its number, unless it is empty
abbrev pub with_content : ℕ → List ℕ → List (ℕ × List ℕ) → List (ℕ × List ℕ)
with_content number [] others = others
with_content number (b ∷ bs) others = (number, b ∷ bs) ∷ others

-- the contents of the lines that aren't empty, each with its number, where the first line has this number
abbrev pub contents_from : ℕ → List (List ℕ) → List (ℕ × List ℕ)
contents_from number [] = []
contents_from number (line ∷ lines) = with_content number (content_of line) (contents_from (number + 1) lines)

-- the contents of a text: its first line is line 1
abbrev pub contents_of : List ℕ → List (ℕ × List ℕ)
contents_of text = contents_from 1 (lines_of text)
