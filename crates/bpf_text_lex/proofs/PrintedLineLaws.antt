-- The lines of a text are those that were joined by newlines, and printed lines say what they are.
use Rattle.std.proofs.Common.{◌≡◌, ℕ, ◌+◌, true, false, ◌==◌, List, [], ◌∷◌, ◌++◌, refl, sym, ap, ◌∙◌, arith}
use Rattle.std.{specs.List.{list_all}, proofs.lemmas.{Bool.{and_parts, cond-false}, Bool.Decides.{nat_tests}}}
use Rattle.bpf_text_lex.specs.Lines.{with_front, lines_of, before_comment, is_blank, trim_start, trim_end, trim}
use Rattle.bpf_text_lex.{specs.Lines.{content_of, with_content, contents_from}, proofs.LineLaws.{keeps_end}}
use Rattle.bpf_text_lex.proofs.SolidWords.{in_line, is_solid, Ends, Line}

no_newline : (b : ℕ) → in_line b ≡ true → (b == 10) ≡ false
no_newline b e = grind (arith, nat_tests)

no_semicolon : (b : ℕ) → in_line b ≡ true → (b == 59) ≡ false
no_semicolon b e = grind (arith, nat_tests)

pub solid_no_blank : (b : ℕ) → is_solid b ≡ true → is_blank b ≡ false
solid_no_blank b e = grind (arith, nat_tests)

pub solid_no_colon : (b : ℕ) → is_solid b ≡ true → (b == 58) ≡ false
solid_no_colon b e = grind (arith, nat_tests)

-- a line and its newline before a text are a line before the text's lines
lines_of-line : (line rest : List ℕ) → list_all in_line line ≡ true → lines_of ((line ++ 10 ∷ []) ++ rest) ≡ line
    ∷ lines_of rest
lines_of-line [] rest e = refl
lines_of-line (b ∷ bs) rest e = let h = and_parts (in_line b) (list_all in_line bs) e in
    rw (no_newline b h.0) (ap (with_front b) (lines_of-line bs rest h.1))

before_comment-all : (line : List ℕ) → list_all in_line line ≡ true → before_comment line ≡ line
before_comment-all [] e = refl
before_comment-all (b ∷ bs) e = let h = and_parts (in_line b) (list_all in_line bs) e in
    rw (no_semicolon b h.0) (ap (λ (cs : List ℕ). b ∷ cs) (before_comment-all bs h.1))

trim_end-ends : (line : List ℕ) → Ends line → trim_end line ≡ line
trim_end-ends line e = ap trim_end e.whole ∙ keeps_end e.front e.last (solid_no_blank e.last e.solid) ∙ sym e.whole

-- a printed line before a text is the first content
pub contents-line : (n : ℕ) (line rest : List ℕ) → Line line → contents_from n (lines_of ((line ++ 10 ∷ []) ++ rest))
    ≡ (n, line) ∷ contents_from (n + 1) (lines_of rest)
contents-line n [] rest l = let begins = l.begins in absurd (cc begins.2)
contents-line n (b ∷ bs) rest l =
    let begins = l.begins in
    let first : begins.0 ≡ b = cc begins.2 in
    let solid : is_solid b ≡ true = rw first at begins.3 in
    let content : content_of (b ∷ bs) ≡ b ∷ bs = ap trim (before_comment-all (b ∷ bs) l.inner)
    ∙ ap trim_end (cond-false (is_blank b) (trim_start bs) (b ∷ bs) (solid_no_blank b solid))
    ∙ trim_end-ends (b ∷ bs) l.ends in
    ap (contents_from n) (lines_of-line (b ∷ bs) rest l.inner)
    ∙ ap (λ (x : List ℕ). with_content n x (contents_from (n + 1) (lines_of rest))) content
