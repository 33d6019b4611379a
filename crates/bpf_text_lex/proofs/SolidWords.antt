-- Printed lines: they have no newline and no semicolon, begin with no blank, and end in a byte that is neither a blank
-- nor a colon.
use Rattle.std.proofs.Common.{◌≡◌, ℕ, ◌+◌, ◌-◌, ◌<◌, ◌≤◌, Bool, true, ◌&&◌, ◌==◌, not, List, [], ◌∷◌, ◌++◌, length}
use Rattle.std.proofs.Common.{get_or, take, refl, sym, ap, ◌∙◌, append_assoc, arith}
use Rattle.std.specs.{Prelude.{nat_le}, Char.{is_ascii_digit}, List.{list_all}}
use Rattle.std.proofs.lemmas.{Bool.{leb-true, and_parts, and_from}, Bool.Decides.{nat_tests}}
use Rattle.std.proofs.lemmas.List.{length-append, take_all, take_more, Folds.{list_all-append}}
use Rattle.std.proofs.lemmas.List.Sums.{AllPass-from_list_all}

-- a byte of a line: 32 or above, and no semicolon
abbrev pub in_line : ℕ → Bool
in_line b = nat_le 32 b && not (b == 59)

-- a byte of a word: no blank, no colon and no semicolon
abbrev pub is_solid : ℕ → Bool
is_solid b = nat_le 33 b && (not (b == 58) && not (b == 59))

-- what passes a test passes a weaker one
pub all_weaker : (p q : ℕ → Bool) → ((b : ℕ) → p b ≡ true → q b ≡ true) → (w : List ℕ) → list_all p w ≡ true
    → list_all q w ≡ true
all_weaker p q weaker [] e = refl
all_weaker p q weaker (b ∷ bs) e = let h = and_parts (p b) (list_all p bs) e in
    and_from (q b) (list_all q bs) (weaker b h.0) (all_weaker p q weaker bs h.1)

solid_in_line : (b : ℕ) → is_solid b ≡ true → in_line b ≡ true
solid_in_line b e = grind (arith, nat_tests)

pub solids_in_line : (w : List ℕ) → list_all is_solid w ≡ true → list_all in_line w ≡ true
solids_in_line w e = all_weaker is_solid in_line solid_in_line w e

digit_solid : (b : ℕ) → is_ascii_digit b ≡ true → is_solid b ≡ true
digit_solid b e = grind (arith, nat_tests)

pub digits_solid : (w : List ℕ) → list_all is_ascii_digit w ≡ true → list_all is_solid w ≡ true
digits_solid w e = all_weaker is_ascii_digit is_solid digit_solid w e

pub all_append : (p : ℕ → Bool) (xs ys : List ℕ) → list_all p xs ≡ true → list_all p ys ≡ true
    → list_all p (xs ++ ys) ≡ true
all_append p xs ys e h = list_all-append p xs ys ∙ and_from (list_all p xs) (list_all p ys) e h

-- the last byte of a text is one of a word
pub record Ends (text : List ℕ) : Type 0 where
  pub front : List ℕ
  pub last : ℕ
  pub whole : text ≡ front ++ last ∷ []
  pub solid : is_solid last ≡ true

pub ends_behind : (xs ys : List ℕ) → Ends ys → Ends (xs ++ ys)
ends_behind xs ys e = record {
  front = xs ++ e.front;
  last = e.last;
  whole = ap (λ (t : List ℕ). xs ++ t) e.whole
      ∙ sym (append_assoc xs e.front (e.last ∷ []));
  solid = e.solid;
}

ends_at : (text : List ℕ) → 0 < length text → is_solid (get_or text (length text - 1) 0) ≡ true → Ends text
ends_at text some e = record {
  front = take (length text - 1) text;
  last = get_or text (length text - 1) 0;
  whole = sym (take_all (length text - 1 + 1) text (omega arith)) ∙ take_more text (length text - 1) 0 (omega arith);
  solid = e;
}

pub ends_word : (w : List ℕ) → 0 < length w → list_all is_solid w ≡ true → Ends w
ends_word w some e = ends_at w some (AllPass-from_list_all is_solid w e (length w - 1) 0 (omega arith))

-- a line as it is printed
pub record Line (text : List ℕ) : Type 0 where
  pub inner : list_all in_line text ≡ true
  pub begins : (b : ℕ) × (bs : List ℕ) × (text ≡ b ∷ bs) × (is_solid b ≡ true)
  pub ends : Ends text

-- a line of at most so many bytes
pub record LineUpTo (most : ℕ) (text : List ℕ) : Type 0 where
  pub line : Line text
  pub short : length text ≤ most

-- whether a text is that
abbrev pub is_line : ℕ → List ℕ → Bool
is_line most text = is_solid (get_or text 0 0) && (list_all in_line text && (is_solid (get_or text (length text - 1) 0)
    && nat_le (length text) most))

pub line_of : (most : ℕ) (text : List ℕ) → is_line most text ≡ true → LineUpTo most text
line_of most [] e = absurd cc
line_of most (b ∷ bs) e =
    let text = b ∷ bs in
    let first = and_parts (is_solid b) _ e in
    let inner = and_parts (list_all in_line text) _ first.1 in
    let last = and_parts (is_solid (get_or text (length text - 1) 0)) (nat_le (length text) most) inner.1 in
    record {
      line = record { inner = inner.0; begins = (b, bs, refl, first.0); ends = ends_at text (omega arith) last.0 };
      short = leb-true _ _ last.1;
    }

-- a word of at most so many bytes
pub record Word (most : ℕ) (text : List ℕ) : Type 0 where
  pub solid : list_all is_solid text ≡ true
  pub filled : 0 < length text
  pub short : length text ≤ most

pub joined : (m n : ℕ) (v w : List ℕ) → Word m v → Word n w → Word (m + n) (v ++ w)
joined m n v w x y = (let long = length-append v w in record {
  solid = all_append is_solid v w x.solid y.solid;
  filled = omega (arith, long, x.filled);
  short = omega (arith, long, x.short, y.short);
})

-- a line goes on with a word, after other bytes of a line
pub line_on : (m n most : ℕ) (line between w : List ℕ) → m + (length between + n) ≤ most → LineUpTo m line
    → list_all in_line between ≡ true → Word n w → LineUpTo most (line ++ (between ++ w))
line_on m n most line between w le l e x =
    let begins = l.line.begins in
    let long = length-append line (between ++ w) in
    let more = length-append between w in
    record {
      line = record {
        inner = all_append in_line line (between ++ w) l.line.inner (all_append in_line between w e (solids_in_line w
            x.solid));
        begins = (begins.0, begins.1 ++ (between ++ w), ap (λ (t : List ℕ). t ++ (between ++ w)) begins.2, begins.3);
        ends = ends_behind line (between ++ w) (ends_behind between w (ends_word w x.filled x.solid));
      };
      short = omega (arith, long, more, l.short, x.short);
    }
