-- The bytes in words give the words back.
use Rattle.std.proofs.Common.{◌≡◌, ℕ, ◌+◌, ◌*◌, ◌/◌, ◌%◌, ◌^◌, ◌-◌, ◌<◌, ◌≤◌, Bool, false, cond, eqb, List, length}
use Rattle.std.proofs.Common.{get_or, drop, sym, ◌∙◌, ap, inl, inr, arith, ext_get_or, get_or-take, get_or-drop, eq-eqb}
use Rattle.std.{proofs.Common.{ne_eqb}, specs.{Prelude.{slice_range}, Int.{bit_at}, Simd.Lanes.{mask_l}}}
use Rattle.std.proofs.{lemmas.{Bool.{cases_eq}, List.{length-take}, Simd.{mask_l-lt, bit_mask_l}}, Math.Pow.{pow_mono}}
use Rattle.std.proofs.lemmas.List.FromFn.{length-map-range_with_len, get_or-map-range_with_len}
use Rattle.std.proofs.lemmas.Nat.Bits.{same_from_bits_below, bit_at-lt}
use Rattle.bpf_verify_model.specs.Words.{is_byte_marked, marks_in_words, words_of_marks}

pub length-marks_in_words : (words : List ℕ) → length (marks_in_words words) ≡ 512
unfolding marks_in_words
length-marks_in_words words = length-map-range_with_len (is_byte_marked words) 0 512

pub get_or-marks_in_words : (words : List ℕ) (byte : ℕ) → byte < 512 → get_or (marks_in_words words) byte false
    ≡ is_byte_marked words byte
unfolding marks_in_words
get_or-marks_in_words words byte h = get_or-map-range_with_len (is_byte_marked words) 0 512 byte byte false h
    (omega arith)

-- a bit as a Bool and back
bit_back : (bit : ℕ) → bit < 2 → cond (eqb bit 1) 1 0 ≡ bit
bit_back bit h =
    elim (cases_eq bit 1) [
      | inl one ↦ ap (λ b. cond b 1 0) (eq-eqb bit 1 one) ∙ sym one
      | inr other ↦ ap (λ b. cond b 1 0) (ne_eqb bit 1 other) ∙ omega arith
    ]

-- the 64 bytes of a word
unfoldable row_of : List ℕ → ℕ → List Bool
row_of words row = slice_range (marks_in_words words) (64 * row) (64 * row + 64)

length-row_of : (words : List ℕ) (row : ℕ) → length (row_of words row) ≤ 64
unfolding row_of
length-row_of words row =
    omega (arith, length-take (64 * row + 64 - 64 * row) (drop (64 * row) (marks_in_words words)))

get_or-row_of : (words : List ℕ) (row bit : ℕ) → row < 8 → bit < 64 → get_or (row_of words row) bit false
    ≡ eqb (bit_at (get_or words row 0) bit) 1
unfolding row_of
get_or-row_of words row bit h k =
    let first : (64 * row + bit) / 64 ≡ row = omega arith in
    let second : (64 * row + bit) % 64 ≡ bit = omega arith in
    get_or-take (64 * row + 64 - 64 * row) (drop (64 * row) (marks_in_words words)) bit false (omega arith)
    ∙ get_or-drop (64 * row) (marks_in_words words) bit false
    ∙ get_or-marks_in_words words (64 * row + bit) (omega arith)
    ∙ ap (λ r. eqb (bit_at (get_or words r 0) ((64 * row + bit) % 64)) 1) first
    ∙ ap (λ b. eqb (bit_at (get_or words row 0) b) 1) second

word_back : (words : List ℕ) (row : ℕ) → row < 8 → get_or words row 0 < 2 ^ 64 → mask_l (row_of words row)
    ≡ get_or words row 0
word_back words row h small =
    let bytes = row_of words row in
    let below : mask_l bytes < 2 ^ 64 = omega (arith, mask_l-lt bytes, pow_mono (length-row_of words row)) in
    same_from_bits_below 64 (mask_l bytes) (get_or words row 0) below small
    (λ bit k.
    bit_mask_l bytes bit
    ∙ ap (λ b. cond b 1 0) (get_or-row_of words row bit h k)
    ∙ bit_back (bit_at (get_or words row 0) bit) (bit_at-lt (get_or words row 0) bit))

pub words_of_marks-marks_in_words : (words : List ℕ) → length words ≡ 8 → ((row : ℕ) → get_or words row 0 < 2 ^ 64)
    → words_of_marks (marks_in_words words) ≡ words
unfolding words_of_marks row_of
words_of_marks-marks_in_words words count small =
    let rows : ℕ → ℕ = λ (row : ℕ). mask_l (slice_range (marks_in_words words) (64 * row) (64 * row + 64)) in
    ext_get_or 0 _ _ (length-map-range_with_len rows 0 8 ∙ sym count)
    (λ row h.
    let within : row < 8 = omega (arith, length-map-range_with_len rows 0 8) in
    get_or-map-range_with_len rows 0 8 row row 0 within (omega arith)
    ∙ word_back words row within (small row))
