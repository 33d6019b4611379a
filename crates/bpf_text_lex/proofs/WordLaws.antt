-- The first word of a line, and what comes after it.
use Rattle.std.proofs.Common.{◌≡◌, ℕ, suc, ◌+◌, ◌<◌, Bool, true, false, cond, not, List, [], ◌∷◌, ◌++◌, length}
use Rattle.std.{proofs.Common.{take, drop, None, refl, sym, ap, ◌∙◌, arith}, specs.Prelude.{position}}
use Rattle.std.{specs.List.{position_or_len, list_all}, proofs.lemmas.List.{take_all, drop_all}}
use Rattle.std.proofs.lemmas.Bool.{and_parts, not-true, cond-false, cond_both}
use Rattle.bpf_text_lex.{proofs.LineLaws.{position_missing, next_of}, specs.Words.{ends_word, words_of}}
use Rattle.bpf_text_lex.specs.Lines.{with_front, is_blank, trim_start}

-- blanks before the first word are in no word
pub words_of-trim_start : (line : List ℕ) → words_of (trim_start line) ≡ words_of line
words_of-trim_start [] = refl
words_of-trim_start (b ∷ bs) = cond_both (is_blank b) (trim_start bs) (b ∷ bs) (λ line. words_of line
    ≡ words_of (b ∷ bs)) (λ e. rw e (words_of-trim_start bs)) (λ e. refl)

-- the words after a word's first byte, where the word goes on or ends there
word_step : (t : Bool) (b : ℕ) (c : ℕ) (cs : List ℕ) (k : ℕ) → (t ≡ is_blank c) →
    (is_blank c ≡ false → words_of (c ∷ cs) ≡ take (suc k) (c ∷ cs) ∷ words_of (drop (suc k) (c ∷ cs))) →
    cond t ((b ∷ []) ∷ words_of (c ∷ cs)) (with_front b (words_of (c ∷ cs)))
    ≡ (b ∷ take (cond (not t) (1 + k) 0) (c ∷ cs)) ∷ words_of (drop (cond (not t) (1 + k) 0) (c ∷ cs))
word_step true b c cs k same on = refl
word_step false b c cs k same on = rw (next_of k) (ap (with_front b) (on (sym same)))

-- a line whose first byte is no blank begins with a word, which ends before the first blank
first_word : (b : ℕ) (bs : List ℕ) → is_blank b ≡ false
    → words_of (b ∷ bs) ≡ (b ∷ take (position_or_len is_blank bs) bs) ∷ words_of (drop (position_or_len is_blank bs) bs)
first_word b [] h = rw h refl
first_word b (c ∷ cs) h =
    rw h (word_step (is_blank c) b c cs (position_or_len is_blank cs) refl (λ e. first_word c cs e))

-- a word before the end of a line or a blank
pub word_before : (b : ℕ) (bs rest : List ℕ) → list_all (λ c. not (is_blank c)) (b ∷ bs) ≡ true
    → ends_word rest ≡ true → words_of (b ∷ bs ++ rest) ≡ (b ∷ bs) ∷ words_of rest
word_before b [] rest all ends = let h = and_parts (not (is_blank b)) true all in rw (not-true _ h.0, ends) refl
word_before b (c ∷ cs) rest all ends =
    let h = and_parts (not (is_blank b)) _ all in
    let i = and_parts (not (is_blank c)) _ h.1 in
    rw (not-true _ h.0) (cond-false (is_blank c) ((b ∷ []) ∷ words_of (c ∷ cs ++ rest)) (with_front b (words_of (c ∷ cs
    ++ rest))) (not-true _ i.0) ∙ ap (with_front b) (word_before c cs rest h.1 ends))

-- what begins a line after its blanks is no blank
is_blank-trim_start : (line : List ℕ) (c : ℕ) (cs : List ℕ) → trim_start line ≡ c ∷ cs → is_blank c ≡ false
is_blank-trim_start [] c cs = λ e. absurd cc
is_blank-trim_start (b ∷ bs) c cs = cond_both (is_blank b) (trim_start bs) (b ∷ bs) (λ line. line ≡ c ∷ cs
    → is_blank c ≡ false) (λ e. is_blank-trim_start bs c cs) (λ e h. let heads : c ≡ b = cc in ap is_blank heads ∙ e)

-- ---- as next_word meets them

-- the first word ends at the first blank, or where the line ends, and it is never empty
pub word_found : (line trimmed : List ℕ) (n : ℕ) → trimmed ≡ trim_start line → 0 < length trimmed
    → position_or_len is_blank trimmed ≡ n → (words_of line ≡ take n trimmed ∷ words_of (drop n trimmed)) × (0 < n)
word_found line [] n same some at = absurd (omega arith)
word_found line (b ∷ bs) n same some at =
    let plain = is_blank-trim_start line b bs (sym same) in
    let n-is : n ≡ suc (position_or_len is_blank bs) = sym at ∙ rw plain (next_of (position_or_len is_blank bs)) in
    (sym (words_of-trim_start line) ∙ ap words_of (sym same) ∙ rw n-is (first_word b bs plain), omega arith)

pub word_missing : (line trimmed : List ℕ) → trimmed ≡ trim_start line → 0 < length trimmed
    → None ≡ position is_blank trimmed → words_of line ≡ trimmed ∷ []
word_missing line trimmed same some e =
    let le = position_missing is_blank trimmed e in
    let k = position_or_len is_blank trimmed in
    (word_found line trimmed k same some refl).0 ∙ rw (take_all k trimmed le, drop_all k trimmed le) refl
