-- What the first line of a text is.
use Rattle.std.proofs.Common.{◌≡◌, ℕ, suc, ◌+◌, ◌-◌, ◌<◌, ◌≤◌, Bool, true, false, cond, if◌then◌else◌, not, ◌==◌, List}
use Rattle.std.proofs.Common.{[], ◌∷◌, ◌++◌, length, take, drop, Some, None, refl, sym, ap, ◌∙◌, subst, append_assoc}
use Rattle.std.{proofs.Common.{get_or, eqb-true, arith}, specs.Str.{IsUtf8, IsCharBoundary}}
use Rattle.std.proofs.lemmas.List.{length-drop, drop-drop, get_or-drop, Quantifiers.{position-Some}}
use Rattle.std.proofs.{lemmas.Str.{IsCharBoundary-after_ascii}, Math.ListN.{drop_of_length-le}}
use Rattle.std.{proofs.Math.Seq.{take-add, take-length}, specs.{Prelude.{position}, List.{concat, position_or_len}}}
use Rattle.bpf_text_lex.{specs.Lines.{with_front}, proofs.LineLaws.{position_found, position_missing}}
use Rattle.bpfspec_serve.specs.Sections.{whole_lines, is_mark, before_mark}

next_of : (k : ℕ) → 1 + k ≡ suc k
next_of k = omega arith

line_step : (t : Bool) (b : ℕ) (bs : List ℕ) (k : ℕ) → cond (not t) (1 + k) 0 < suc (length bs)
    → (k < length bs → whole_lines bs ≡ take (suc k) bs ∷ whole_lines (drop (suc k) bs)) →
    cond t ((b ∷ []) ∷ whole_lines bs) (with_front b (whole_lines bs)) ≡ take (suc (cond (not t) (1 + k) 0)) (b ∷ bs)
    ∷ whole_lines (drop (suc (cond (not t) (1 + k) 0)) (b ∷ bs))
line_step true b bs k lt shorter = refl
line_step false b bs k lt shorter = rw (next_of k) (ap (with_front b) (shorter (omega arith)))

-- a text with a newline in it
newline : (text : List ℕ) → position_or_len (λ b. b == 10) text < length text →
    whole_lines text ≡ take (suc (position_or_len (λ b. b == 10) text)) text
    ∷ whole_lines (drop (suc (position_or_len (λ b. b == 10) text)) text)
newline [] lt = absurd (omega arith)
newline (b ∷ bs) lt = line_step (b == 10) b bs (position_or_len (λ c. c == 10) bs) lt (newline bs)

pub line_found : (text : List ℕ) (n : ℕ) → Some n ≡ position (λ b. b == 10) text → whole_lines text ≡ take (n + 1) text
    ∷ whole_lines (drop (n + 1) text)
line_found text n e =
    let f = position_found (λ b. b == 10) text n e in
    let inside : position_or_len (λ b. b == 10) text < length text = omega (arith, f.0, f.1) in
    let next : n + 1 ≡ suc n = omega arith in
    rw next (rw f.0 at (newline text inside))

last_step : (t : Bool) (b : ℕ) (bs : List ℕ) (k : ℕ) → suc (length bs) ≤ cond (not t) (1 + k) 0
    → (length bs ≤ k → with_front b (whole_lines bs) ≡ (b ∷ bs) ∷ []) →
    cond t ((b ∷ []) ∷ whole_lines bs) (with_front b (whole_lines bs)) ≡ (b ∷ bs) ∷ []
last_step true b bs k le whole = absurd (omega arith)
last_step false b bs k le whole = whole (omega arith)

last_line : (b : ℕ) (bs : List ℕ) → length bs ≤ position_or_len (λ c. c == 10) bs → with_front b (whole_lines bs)
    ≡ (b ∷ bs) ∷ []
last_line b [] le = refl
last_line b (c ∷ cs) le = ap (with_front b) (last_step (c == 10) c cs (position_or_len (λ d. d == 10) cs) le
    (last_line c cs))

whole_last : (text : List ℕ) → 0 < length text → length text ≤ position_or_len (λ b. b == 10) text
    → whole_lines text ≡ text ∷ []
whole_last [] some le = absurd (omega arith)
whole_last (b ∷ bs) some le = last_step (b == 10) b bs (position_or_len (λ c. c == 10) bs) le (last_line b bs)

-- a text with no newline in it
pub line_missing : (text : List ℕ) → 0 < length text → None ≡ position (λ b. b == 10) text
    → whole_lines text ≡ take (length text) text ∷ whole_lines (drop (length text) text)
line_missing text some e =
    let none : drop (length text) text ≡ [] = drop_of_length-le text (omega arith) in
    rw (none, take-length text) (whole_last text some (position_missing (λ b. b == 10) text e))

concat-front : (b : ℕ) (lines : List (List ℕ)) → concat (with_front b lines) ≡ b ∷ concat lines
concat-front b [] = refl
concat-front b (line ∷ lines) = refl

concat-byte : (newline : Bool) (b : ℕ) (bs : List ℕ) → concat (whole_lines bs) ≡ bs
    → concat (if newline then (b ∷ []) ∷ whole_lines bs else with_front b (whole_lines bs)) ≡ b ∷ bs
concat-byte true b bs rest = ap (λ (ls : List ℕ). b ∷ ls) rest
concat-byte false b bs rest = concat-front b (whole_lines bs) ∙ ap (λ (ls : List ℕ). b ∷ ls) rest

-- the lines of a text on end are the text
concat-whole_lines : (text : List ℕ) → concat (whole_lines text) ≡ text
concat-whole_lines [] = refl
concat-whole_lines (b ∷ bs) = concat-byte (b == 10) b bs (concat-whole_lines bs)

-- so a text of these lines is all of them on end
pub text_of_lines : (text : List ℕ) (lines : List (List ℕ)) → whole_lines text ≡ lines → text ≡ concat lines
text_of_lines text lines same = sym (concat-whole_lines text) ∙ ap concat same

-- what is left after a place in a text
pub left_behind : (text bytes : List ℕ) (at : ℕ) → bytes ≡ text → take (length bytes - at) (drop at bytes)
    ≡ drop at text
left_behind text bytes at same = rw (← (length-drop at bytes), take-length (drop at bytes), same)

-- its lines, where this is the first of them
pub lines_behind : (text rest : List ℕ) (at n : ℕ) → rest ≡ drop at text → whole_lines rest ≡ take n rest
    ∷ whole_lines (drop n rest) → whole_lines (drop at text) ≡ take n rest ∷ whole_lines (drop (at + n) text)
lines_behind text rest at n is_rest line = rw (← (drop-drop n at text), ← is_rest) line

-- the section goes on over a line that is no mark
pub section_goes_on : (text rest : List ℕ) (at n : ℕ) → rest ≡ drop at text → whole_lines rest ≡ take n rest
    ∷ whole_lines (drop n rest) → false ≡ is_mark (take n rest)
    → before_mark (whole_lines text) ≡ take at text ++ before_mark (whole_lines (drop at text))
    → before_mark (whole_lines text) ≡ take (at + n) text ++ before_mark (whole_lines (drop (at + n) text))
section_goes_on text rest at n is_rest line other so_far =
    rw (so_far, lines_behind text rest at n is_rest line, ← other, is_rest, take-add at n text, append_assoc)

-- a line may be cut off where it ends
pub line_boundary : (text rest : List ℕ) (at n : ℕ) → IsUtf8 text → rest ≡ drop at text → at ≤ length text → 0 < n
    → n ≤ length rest
    → (n < length rest → get_or rest (n - 1) 0 ≡ 10) → IsCharBoundary text (at + n)
line_boundary text rest at n utf8 is_rest within some inside ends =
    let long : length rest ≡ length text - at = ap length is_rest ∙ length-drop at text in
    let within_text : at + n ≤ length text = omega (arith, long) in
    let next : at + (n - 1) + 1 ≡ at + n = omega arith in (
      within_text,
      λ (less : at + n < length text).
          let shorter : n < length rest = omega (arith, long) in
          let before : at + (n - 1) < length text = omega arith in
          let read : get_or text (at + (n - 1)) 0 ≡ 10 = sym (get_or-drop at text (n - 1) 0)
          ∙ ap (λ (r : List ℕ). get_or r (n - 1) 0) (sym is_rest) ∙ ends shorter in
          let ascii : get_or text (at + (n - 1)) 0 < 128 = omega (arith, read) in
          (subst (IsCharBoundary text) next (IsCharBoundary-after_ascii text (at + (n - 1)) utf8 before ascii)).1 less,
    )

-- a newline is where it was found
pub newline_stands : (text : List ℕ) (n : ℕ) → Some n ≡ position (λ b. b == 10) text → get_or text (n + 1 - 1) 0 ≡ 10
newline_stands text n e =
    let here : n + 1 - 1 ≡ n = omega arith in
    rw here (eqb-true _ _ (position-Some (λ b. b == 10) text n 0 (sym e)).1)
