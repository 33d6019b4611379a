-- The first line of a unit is read back as its sizes.
use Rattle.std.proofs.Common.{◌≡◌, ℕ, ◌+◌, ◌-◌, ◌*◌, ◌^◌, ◌<◌, ◌≤◌, true, not, List, [], ◌∷◌, ◌++◌, map}
use Rattle.std.proofs.Common.{length, codes, flat_map, Ok, Err, refl, ap, ◌∙◌, append_assoc, append-nil}
use Rattle.std.{proofs.Common.{arith, bytes_eq, decimal}, specs.{Prelude.{nat_le, sum}, List.{list_all}}}
use Rattle.std.proofs.lemmas.Bool.{leb-true, and_parts, and_from, cond-true, or_left}
use Rattle.std.proofs.lemmas.List.{length-append, Sums.{sum_by-cons}}
use Rattle.bpf_text_lex.{proofs.SpellingLaws.{in_field, decimal_digits}}
use Rattle.bpf_text_lex.specs.{Lines.{is_blank}, Words.{ends_word, words_of}, Head.{as_sizes, head_of}}
use Rattle.bpf_text_lex.specs.{Numbers.{is_number, is_numeral, is_negative}, Fields.{numbers_in, fields_of}}
use Rattle.bpf_text_lex.{specs.PrintedLines.{size_spelling, head_spelling}, proofs.PrintedLineLaws.{solid_no_blank}}
use Rattle.bpf_text_lex.proofs.SolidWords.{is_solid, all_weaker, Line, LineUpTo, line_of, line_on}
use Rattle.bpf_text_lex.proofs.{WordLaws.{word_before}, PrintedInsns.{decimal_word}}
use Rattle.bpf_text_lex.specs.declared.text_error.TextFault.TheVariants as faults
use Rattle.bpf_insn_types.specs.Limits.{sizes_fit}

-- a word before the end of a line or a blank
pub word_first : (w rest : List ℕ) → 0 < length w → list_all is_solid w ≡ true → ends_word rest ≡ true
    → words_of (w ++ rest) ≡ w ∷ words_of rest
word_first [] rest some all ends = absurd (omega arith)
word_first (b ∷ bs) rest some all ends = word_before b bs rest (all_weaker is_solid (λ c. not (is_blank c))
    (λ c e. ap not (solid_no_blank c e)) (b ∷ bs) all) ends

-- each size is at most the limit of all
abbrev Small : List ℕ → Type 0
Small [] = Unit {0}
Small (size ∷ sizes) = (size ≤ 65536) × Small sizes

are_small : (sizes : List ℕ) → sum sizes ≤ 65536 → Small sizes
are_small [] le = tt
are_small (size ∷ sizes) le =
    let parts : sum (size ∷ sizes) ≡ size + sum sizes = sum_by-cons (λ n. n) size sizes in
    (omega (arith, parts, le), are_small sizes (omega (arith, parts, le)))

sizes_end : (sizes : List ℕ) → ends_word (flat_map size_spelling sizes) ≡ true
sizes_end [] = refl
sizes_end (size ∷ sizes) = refl

words_of-sizes : (sizes : List ℕ) → Small sizes → words_of (flat_map size_spelling sizes) ≡ map decimal sizes
words_of-sizes [] le = refl
words_of-sizes (size ∷ sizes) le =
    let word = decimal_word 20 size (omega arith) (omega (arith, le.0)) in
    word_first (decimal size) (flat_map size_spelling sizes) word.filled word.solid (sizes_end sizes)
    ∙ ap (λ (ws : List (List ℕ)). decimal size ∷ ws) (words_of-sizes sizes le.1)

are_numbers : (sizes : List ℕ) → Small sizes → list_all is_number (map decimal sizes) ≡ true
are_numbers [] le = refl
are_numbers (size ∷ sizes) le =
    let digits = decimal_digits size (omega (arith, le.0)) in
    and_from (is_number (decimal size)) (list_all is_number (map decimal sizes))
    (or_left (is_numeral (decimal size)) (is_negative (decimal size)) digits.numeral) (are_numbers sizes le.1)

numbers_back : (sizes : List ℕ) → Small sizes → numbers_in (2 ^ 32 - 1) (map decimal sizes) ≡ Ok sizes
numbers_back [] le = refl
numbers_back (size ∷ sizes) le =
    rw (in_field (2 ^ 32 - 1) size (omega arith) (omega (arith, le.0)), numbers_back sizes le.1) refl

-- ---- what sizes stand under

record Stand (sizes : List ℕ) : Type 0 where
  few : length sizes ≤ 16
  small : Small sizes

stand : (sizes : List ℕ) → sizes_fit sizes ≡ true → Stand sizes
stand sizes e =
    let some = and_parts (nat_le 1 (length sizes)) _ e in
    let few = and_parts (nat_le (length sizes) 16) _ some.1 in
    let small = and_parts (list_all (nat_le 1) sizes) (nat_le (sum sizes) 65536) few.1 in
    record { few = leb-true _ _ few.0; small = are_small sizes (leb-true _ _ small.1) }

-- the first line is read back
pub head_back : (sizes : List ℕ) → sizes_fit sizes ≡ true → head_of (words_of (head_spelling sizes)) ≡ Ok sizes
head_back sizes e =
    let small = (stand sizes e).small in
    let words : words_of (head_spelling sizes) ≡ codes "maps" ∷ map decimal sizes =
    word_first (codes "maps") (flat_map size_spelling sizes) (omega arith) refl (sizes_end sizes)
    ∙ ap (λ (ws : List (List ℕ)). codes "maps" ∷ ws) (words_of-sizes sizes small) in
    ap head_of words
    ∙ ap as_sizes (cond-true (bytes_eq (codes "maps") (codes "maps")) (fields_of (2 ^ 32 - 1) (map decimal sizes))
    (Err faults.Form) refl ∙ cond-true (list_all is_number (map decimal sizes)) (numbers_in (2 ^ 32 - 1) (map decimal
    sizes)) (Err faults.Form) (are_numbers sizes small) ∙ numbers_back sizes small)
    ∙ cond-true (sizes_fit sizes) (Ok sizes) (Err faults.Limits) e

sizes_on : (m : ℕ) (front sizes : List ℕ) → LineUpTo m front → Small sizes
    → LineUpTo (m + 21 * length sizes) (front ++ flat_map size_spelling sizes)
sizes_on m front [] line le =
    rw (append-nil front) (record { line = line.line; short = omega (arith, line.short) })
sizes_on m front (size ∷ sizes) line le =
    let more = line_on m 20 (m + 21) front (32 ∷ []) (decimal size) (omega arith) line refl (decimal_word 20 size
    (omega arith) (omega (arith, le.0))) in
    let all = sizes_on (m + 21) (front ++ 32 ∷ decimal size) sizes more le.1 in
    rw (← append_assoc front (32 ∷ decimal size) (flat_map size_spelling sizes))
    (record { line = all.line; short = omega (arith, all.short) })

head_line : (sizes : List ℕ) → sizes_fit sizes ≡ true → LineUpTo 340 (head_spelling sizes)
head_line sizes e =
    let s = stand sizes e in
    let line = sizes_on 4 (codes "maps") sizes (line_of 4 (codes "maps") refl) s.small in
    record { line = line.line; short = omega (arith, line.short, s.few) }

-- the first line is printed as a line
pub head_is_line : (sizes : List ℕ) → sizes_fit sizes ≡ true → Line (head_spelling sizes)
head_is_line sizes e = (head_line sizes e).line

pub head_short : (sizes : List ℕ) → sizes_fit sizes ≡ true → length (head_spelling sizes ++ 10 ∷ []) ≤ 341
head_short sizes e = let short = (head_line sizes e).short in
    omega (arith, short, length-append (head_spelling sizes) (10 ∷ []))
