-- The words of a line, which blanks part.
use Rattle.std.specs.Prelude.{ℕ, Bool, true, if◌then◌else◌, List, [], ◌∷◌}
use Rattle.bpf_text_lex.specs.Lines.{is_blank, with_front}

-- whether a word ends before these bytes: none is left, or a blank follows
abbrev pub ends_word : List ℕ → Bool
ends_word [] = true
ends_word (b ∷ bs) = is_blank b

-- the words of a line from left to right
abbrev pub words_of : List ℕ → List (List ℕ)
words_of [] = []
words_of (b ∷ bs) =
    if is_blank b then words_of bs
    else if ends_word bs then (b ∷ []) ∷ words_of bs
    else with_front b (words_of bs)
