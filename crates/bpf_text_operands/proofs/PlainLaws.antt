-- Operands have no blanks and no commas in them, so lines are cut where they were joined.
use Rattle.std.proofs.Common.{◌≡◌, ℕ, ◌+◌, ◌<◌, true, false, cond, ◌==◌, List, [], ◌∷◌, ◌++◌, length, drop, Some, None}
use Rattle.std.{proofs.Common.{refl, ap, ◌∙◌, arith}, specs.{Prelude.{position, nat_lt}, Char.{is_ascii_digit}}}
use Rattle.std.{specs.List.{position_or_len, list_all}, proofs.lemmas.Bool.{ne_eqb, lt-ltb, and_parts}}
use Rattle.std.proofs.lemmas.Bool.Decides.{nat_tests}
use Rattle.std.proofs.{lemmas.List.{length-append}, Math.Seq.{take-append_seam, drop-append-add}}
use Rattle.bpf_text_lex.specs.Lines.{is_blank, trim_start, before_kept, trim_end, trim}
use Rattle.bpf_text_lex.proofs.SpellingLaws.{digit_low}
use Rattle.bpf_text_operands.specs.Operands.{cut, cut_comma}

-- no byte is a blank or a comma
abbrev pub Plain : List ℕ → Type 0
Plain [] = Unit {0}
Plain (b ∷ bs) = (42 < b) × (b ≡ 44 → ⊥) × Plain bs

pub plain-append : (xs ys : List ℕ) → Plain xs → Plain ys → Plain (xs ++ ys)
plain-append [] ys a b = b
plain-append (x ∷ xs) ys a b = (a.0, a.1, plain-append xs ys a.2 b)

no_blank : (b : ℕ) → 42 < b → is_blank b ≡ false
no_blank b lt = grind (arith, nat_tests)

trim_end-plain : (bs : List ℕ) → Plain bs → trim_end bs ≡ bs
trim_end-plain [] p = refl
trim_end-plain (b ∷ []) p = rw (no_blank b p.0) refl
trim_end-plain (b ∷ c ∷ cs) p = ap (before_kept b) (trim_end-plain (c ∷ cs) p.2)

pub trim_start-plain : (bs : List ℕ) → Plain bs → trim_start bs ≡ bs
trim_start-plain [] p = refl
trim_start-plain (b ∷ bs) p = rw (no_blank b p.0) refl

pub trim_start-text : (bs rest : List ℕ) → Plain bs → 0 < length bs → trim_start (bs ++ rest) ≡ bs ++ rest
trim_start-text [] rest p some = absurd (omega arith)
trim_start-text (b ∷ bs) rest p some = rw (no_blank b p.0) refl

pub trim-plain : (bs : List ℕ) → Plain bs → trim bs ≡ bs
trim-plain bs p = ap trim_end (trim_start-plain bs p) ∙ trim_end-plain bs p

-- no byte is a comma
abbrev pub NoComma : List ℕ → Type 0
NoComma [] = Unit {0}
NoComma (b ∷ bs) = (b ≡ 44 → ⊥) × NoComma bs

pub plain-no_comma : (bs : List ℕ) → Plain bs → NoComma bs
plain-no_comma [] p = tt
plain-no_comma (b ∷ bs) p = (p.1, plain-no_comma bs p.2)

comma_at : (v rest : List ℕ) → NoComma v → position_or_len (λ b. b == 44) (v ++ 44 ∷ rest) ≡ length v
comma_at [] rest p = refl
comma_at (b ∷ bs) rest p =
    let other : (b == 44) ≡ false = ne_eqb b 44 p.0 in
    let behind = comma_at bs rest p.1 in
    rw other (omega (arith, behind))

found_at : (text : List ℕ) (n k : ℕ) → k ≡ n → n < length text → cond (nat_lt k (length text)) (Some k) None ≡ Some n
found_at text n k same lt = rw (same, lt-ltb n (length text) lt) refl

-- a text is cut at the comma after its first operand
pub cut_back : (v rest : List ℕ) → NoComma v → cut_comma (v ++ 44 ∷ rest) ≡ Some (v, rest)
cut_back v rest p =
    let text = v ++ 44 ∷ rest in
    let long : length text ≡ length v + length (44 ∷ rest) = length-append v (44 ∷ rest) in
    let at : position (λ b. b == 44) text ≡ Some (length v) =
    found_at text (length v) (position_or_len (λ b. b == 44) text) (comma_at v rest p) (omega (arith, long)) in
    ap (cut text) at
    ∙ ap (λ (front : List ℕ). Some (front, drop (length v + 1) text)) (take-append_seam v (44 ∷ rest))
    ∙ ap (λ (behind : List ℕ). Some (v, behind)) (drop-append-add v (44 ∷ rest) 1)

-- ---- digits

pub plain-digits : (bs : List ℕ) → list_all is_ascii_digit bs ≡ true → Plain bs
plain-digits [] e = tt
plain-digits (b ∷ bs) e =
    let h = and_parts (is_ascii_digit b) (list_all is_ascii_digit bs) e in
    let low = digit_low b h.0 in
    (omega (arith, low), (λ same. absurd (omega (arith, low, same))), plain-digits bs h.1)
