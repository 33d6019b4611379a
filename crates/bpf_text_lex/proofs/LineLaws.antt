-- Where a byte is, and what lines, comments and blanks are around it.
use Rattle.std.proofs.Common.{◌≡◌, ℕ, suc, ◌+◌, ◌-◌, ◌<◌, ◌≤◌, Bool, true, false, cond, not, ◌==◌, List, [], ◌∷◌, ◌++◌}
use Rattle.std.proofs.Common.{length, take, drop, Some, None, refl, sym, ap, ◌∙◌, add-one, arith}
use Rattle.std.{specs.{Prelude.{position, nat_lt}, List.{position_or_len}}, proofs.lemmas.Bool.{ltb-false, ltb-true}}
use Rattle.std.proofs.lemmas.List.{take_all, take_rest, drop_all}
use Rattle.bpf_text_lex.specs.Lines.{with_front, lines_of, before_comment, is_blank, before_kept, trim_end}
use Rattle.bpf_text_lex.specs.Lines.{content_of, with_content, contents_from, contents_of}

found_at : (b : Bool) (m n size : ℕ) → nat_lt m size ≡ b → Some n ≡ cond b (Some m) None → (m ≡ n) × (n < size)
found_at true m n size t e = (let same : m ≡ n = cc in let inside : m < size = ltb-true _ _ t in (same, omega arith))
found_at false m n size t e = absurd cc

missing_at : (b : Bool) (m size : ℕ) → nat_lt m size ≡ b → None ≡ cond b (Some m) None → size ≤ m
missing_at true m size t e = absurd cc
missing_at false m size t e = ltb-false _ _ t

-- what a position that was found says
pub position_found : (p : ℕ → Bool) (xs : List ℕ) (n : ℕ) → Some n ≡ position p xs → (position_or_len p xs ≡ n)
    × (n < length xs)
position_found p xs n e = found_at (nat_lt (position_or_len p xs) (length xs)) (position_or_len p xs) n (length xs) refl
    e

-- what it says that none was found
pub position_missing : (p : ℕ → Bool) (xs : List ℕ) → None ≡ position p xs → length xs ≤ position_or_len p xs
position_missing p xs e = missing_at (nat_lt (position_or_len p xs) (length xs)) (position_or_len p xs) (length xs) refl
    e

pub next_of : (k : ℕ) → 1 + k ≡ suc k
next_of k = omega arith

-- ---- lines

line_step : (t : Bool) (b : ℕ) (bs : List ℕ) (k : ℕ) → with_front b (lines_of bs) ≡ (b ∷ take k bs)
    ∷ lines_of (drop (suc k) bs) → cond t ([] ∷ lines_of bs) (with_front b (lines_of bs))
    ≡ take (cond (not t) (1 + k) 0) (b ∷ bs) ∷ lines_of (drop (suc (cond (not t) (1 + k) 0)) (b ∷ bs))
line_step true b bs k longer = refl
line_step false b bs k longer = rw (next_of k) longer

-- the first line ends at the first newline, or where the text ends
first_line : (b : ℕ) (bs : List ℕ) → lines_of (b ∷ bs) ≡ take (position_or_len (λ c. c == 10) (b ∷ bs)) (b ∷ bs)
    ∷ lines_of (drop (suc (position_or_len (λ c. c == 10) (b ∷ bs))) (b ∷ bs))
first_line b [] = line_step (b == 10) b [] 0 refl
first_line b (c ∷ cs) = line_step (b == 10) b (c ∷ cs) (position_or_len (λ d. d == 10) (c ∷ cs)) (ap (with_front b)
    (first_line c cs))

pub line_found : (text : List ℕ) (n : ℕ) → Some n ≡ position (λ b. b == 10) text → take n text
    ∷ lines_of (take (length text - (n + 1)) (drop (n + 1) text)) ≡ lines_of text
line_found [] n e = absurd cc
line_found (b ∷ bs) n e =
    let f = position_found (λ b. b == 10) (b ∷ bs) n e in
    rw (take_rest (b ∷ bs) (n + 1), add-one) (sym (rw f.0 at (first_line b bs)))

pub line_missing : (text : List ℕ) → 0 < length text → None ≡ position (λ b. b == 10) text → lines_of text ≡ text ∷ []
line_missing [] some e = absurd (omega arith)
line_missing (b ∷ bs) some e =
    let le = position_missing (λ b. b == 10) (b ∷ bs) e in
    let k = position_or_len (λ c. c == 10) (b ∷ bs) in
    let left : drop (suc k) (b ∷ bs) ≡ [] = drop_all (suc k) (b ∷ bs) (omega (arith, le)) in
    rw (take_all k (b ∷ bs) le, left) at (first_line b bs)

-- ---- comments

comment_step : (t : Bool) (b : ℕ) (bs : List ℕ) (k : ℕ) → take k bs ≡ before_comment bs
    → take (cond (not t) (1 + k) 0) (b ∷ bs) ≡ cond t [] (b ∷ before_comment bs)
comment_step true b bs k shorter = refl
comment_step false b bs k shorter = rw (next_of k) (ap (λ (cs : List ℕ). b ∷ cs) shorter)

take-comment : (line : List ℕ) → take (position_or_len (λ b. b == 59) line) line ≡ before_comment line
take-comment [] = refl
take-comment (b ∷ bs) = comment_step (b == 59) b bs (position_or_len (λ c. c == 59) bs) (take-comment bs)

pub comment_found : (line : List ℕ) (n : ℕ) → Some n ≡ position (λ b. b == 59) line → take n line ≡ before_comment line
comment_found line n e = let f = position_found (λ b. b == 59) line n e in rw f.0 at (take-comment line)

pub comment_missing : (line : List ℕ) → None ≡ position (λ b. b == 59) line → line ≡ before_comment line
comment_missing line e = sym (take_all _ line (position_missing (λ b. b == 59) line e)) ∙ take-comment line

-- ---- blanks at the end

pub trims_blank : (xs : List ℕ) (b : ℕ) → is_blank b ≡ true → trim_end (xs ++ b ∷ []) ≡ trim_end xs
trims_blank [] b h = rw h refl
trims_blank (x ∷ xs) b h = ap (before_kept x) (trims_blank xs b h)

before_kept-some : (x : ℕ) (xs : List ℕ) (b : ℕ) → before_kept x (xs ++ b ∷ []) ≡ x ∷ (xs ++ b ∷ [])
before_kept-some x [] b = refl
before_kept-some x (c ∷ cs) b = refl

pub keeps_end : (xs : List ℕ) (b : ℕ) → is_blank b ≡ false → trim_end (xs ++ b ∷ []) ≡ xs ++ b ∷ []
keeps_end [] b h = rw h refl
keeps_end (x ∷ xs) b h = ap (before_kept x) (keeps_end xs b h) ∙ before_kept-some x xs b

-- ---- how many lines there are

one_more : (t : Bool) (b : ℕ) (lines : List (List ℕ)) → length (cond t ([] ∷ lines) (with_front b lines))
    ≤ suc (length lines)
one_more true b lines = omega arith
one_more false b [] = omega arith
one_more false b (line ∷ lines) = omega arith

lines_few : (text : List ℕ) → length (lines_of text) ≤ length text
lines_few [] = omega arith
lines_few (b ∷ bs) = omega (arith, one_more (b == 10) b (lines_of bs), lines_few bs)

content_more : (number : ℕ) (content : List ℕ) (others : List (ℕ × List ℕ))
    → length (with_content number content others) ≤ suc (length others)
content_more number [] others = omega arith
content_more number (b ∷ bs) others = omega arith

contents_few : (number : ℕ) (lines : List (List ℕ)) → length (contents_from number lines) ≤ length lines
contents_few number [] = omega arith
contents_few number (line ∷ lines) = omega (
  arith,
  contents_few (number + 1) lines,
  content_more number
      (content_of line) (contents_from (number + 1) lines),
)

-- no more than bytes
pub length-contents_of : (text : List ℕ) → length (contents_of text) ≤ length text
length-contents_of text = omega (arith, lines_few text, contents_few 1 (lines_of text))
