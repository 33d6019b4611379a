-- The bytes in words that meet word by word.
use Rattle.std.proofs.Common.{◌≡◌, ℕ, ◌/◌, ◌%◌, ◌<◌, min, Bool, false, ◌&&◌, eqb, List, length, get_or, ap, sym, ◌∙◌}
use Rattle.std.{proofs.Common.{inl, inr, arith, ext_get_or}, specs.{Prelude.{zip, bit_and}, Int.{bit_at}}}
use Rattle.std.proofs.lemmas.{Bool.{cases_lt, Decides.{nat_tests}}, List.{length-map, get_or-map, get_or_past}}
use Rattle.std.proofs.lemmas.{Nat.{and_le_l, Bits.{bit_at_and, bit_at-lt}}, Slice.Zip.{length-zip, get_or-zip}}
use Rattle.bpf_verify_model.specs.{Written.{joined_written}, Words.{is_byte_marked, marks_in_words, AreMarkWords}}
use Rattle.bpf_verify_model.specs.WordsBack.{length-marks_in_words, get_or-marks_in_words}
use Rattle.bpf_verify_model.proofs.MeetLaws.{met_to, met_to-all, length-met_to}

-- a row of the words that are met
get_or-met : (xs ys : List ℕ) (row : ℕ) → length xs ≡ 8 → length ys ≡ 8 → row < 8
    → get_or (met_to bit_and xs ys 8) row 0 ≡ bit_and (get_or xs row 0) (get_or ys row 0)
get_or-met xs ys row m n h =
    ap (λ (l : List ℕ). get_or l row 0) (met_to-all bit_and xs ys 8 m n)
    ∙ get_or-map (λ (pair : ℕ × ℕ). bit_and pair.0 pair.1) (zip xs ys) row (0, 0) 0 (omega (arith, length-zip xs ys))
    ∙ ap (λ (pair : ℕ × ℕ). bit_and pair.0 pair.1) (get_or-zip xs ys row (0, 0) (omega arith) (omega arith))

-- the words that are met are still words
pub AreMarkWords-met : (xs ys : List ℕ) → AreMarkWords xs → AreMarkWords ys → AreMarkWords (met_to bit_and xs ys 8)
AreMarkWords-met xs ys a b = record {
  count = length-met_to bit_and xs ys 8 ∙ a.count;
  small = λ row.
      elim (cases_lt row 8) [
        | inl within ↦ rw (get_or-met xs ys row a.count b.count within)
            (omega (arith, and_le_l (get_or xs row 0) (get_or ys row 0), a.small row))
        | inr past ↦
            rw (get_or_past (met_to bit_and xs ys 8) row 0 (omega (arith, length-met_to bit_and xs ys 8, a.count)))
            (omega (arith, a.small row))
      ];
}

-- a bit of what two words share
shared_bit : (x y : ℕ) → x < 2 → y < 2 → eqb (min x y) 1 ≡ (eqb x 1 && eqb y 1)
shared_bit x y h k = grind (arith, nat_tests)

is_byte_marked-met : (xs ys : List ℕ) (byte : ℕ) → length xs ≡ 8 → length ys ≡ 8 → byte < 512
    → is_byte_marked (met_to bit_and xs ys 8) byte ≡ (is_byte_marked xs byte && is_byte_marked ys byte)
is_byte_marked-met xs ys byte m n h =
    let x : ℕ = get_or xs (byte / 64) 0 in
    let y : ℕ = get_or ys (byte / 64) 0 in
    ap (λ word. eqb (bit_at word (byte % 64)) 1) (get_or-met xs ys (byte / 64) m n (omega arith))
    ∙ ap (λ bit. eqb bit 1) (bit_at_and x y (byte % 64))
    ∙ shared_bit (bit_at x (byte % 64)) (bit_at y (byte % 64)) (bit_at-lt x (byte % 64)) (bit_at-lt y (byte % 64))

-- the bytes in the words that are met
pub marks_in_words-met : (xs ys : List ℕ) → length xs ≡ 8 → length ys ≡ 8
    → marks_in_words (met_to bit_and xs ys 8) ≡ joined_written (marks_in_words xs) (marks_in_words ys)
marks_in_words-met xs ys m n =
    let both : Bool × Bool → Bool = λ (pair : Bool × Bool). pair.0 && pair.1 in
    let pairs : List (Bool × Bool) = zip (marks_in_words xs) (marks_in_words ys) in
    let many : length pairs ≡ 512 = omega (
      arith,
      length-zip (marks_in_words xs) (marks_in_words ys),
      length-marks_in_words xs,
      length-marks_in_words ys,
    ) in
    ext_get_or false _ _ (length-marks_in_words (met_to bit_and xs ys 8) ∙ sym many ∙ sym (length-map pairs both))
    (λ byte h.
    let within : byte < 512 = omega (arith, length-marks_in_words (met_to bit_and xs ys 8)) in
    get_or-marks_in_words (met_to bit_and xs ys 8) byte within
    ∙ is_byte_marked-met xs ys byte m n within
    ∙ sym (get_or-map both pairs byte (false, false) false (omega arith)
    ∙ ap both (get_or-zip (marks_in_words xs) (marks_in_words ys) byte (false, false)
    (omega (arith, length-marks_in_words xs)) (omega (arith, length-marks_in_words ys)))
    ∙ ap (λ b. b && get_or (marks_in_words ys) byte false) (get_or-marks_in_words xs byte within)
    ∙ ap (λ b. is_byte_marked xs byte && b) (get_or-marks_in_words ys byte within)))
