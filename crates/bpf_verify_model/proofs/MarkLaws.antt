-- One bit of the words, tested and set.
use Rattle.std.proofs.Common.{◌≡◌, ℕ, ◌*◌, ◌/◌, ◌%◌, ◌^◌, ◌<◌, true, false, eqb, List, length, replicate, get_or, set}
use Rattle.std.proofs.Common.{sym, ◌∙◌, ap, inl, inr, arith, ext_get_or, length-set, get_or-set_same, get_or-set_other}
use Rattle.std.{proofs.Common.{eq-eqb, ne_eqb, w64}, specs.{Prelude.{bit_and, bit_or}, Int.{bit_at}}}
use Rattle.std.proofs.lemmas.{Bool.{cases_eq}, List.{length-replicate, get_or-replicate}, Nat.{one_shl, pow_pos, or_lt}}
use Rattle.std.proofs.lemmas.Nat.Bits.{bit_at_set_same, bit_at_set_other, bit_at-zero, bit_at-lt, and_pow}
use Rattle.std.proofs.Math.Pow.{pow-lt}
use Rattle.bpf_verify_model.specs.{Written.{none_written}, Words.{is_byte_marked, marks_in_words, AreMarkWords}}
use Rattle.bpf_verify_model.specs.WordsBack.{length-marks_in_words, get_or-marks_in_words}

pub marks_in_words-zeros : marks_in_words (replicate 8 0) ≡ none_written
unfolding none_written
marks_in_words-zeros =
    ext_get_or false _ _ (length-marks_in_words (replicate 8 0) ∙ sym (length-replicate 512 false))
    (λ byte h.
    let within : byte < 512 = omega (arith, length-marks_in_words (replicate 8 0)) in
    get_or-marks_in_words (replicate 8 0) byte within
    ∙ ap (λ word. eqb (bit_at word (byte % 64)) 1) (get_or-replicate 8 (byte / 64) 0 0 (omega arith))
    ∙ ap (λ bit. eqb bit 1) (bit_at-zero (byte % 64))
    ∙ sym (get_or-replicate 512 byte false false within))

pub unmarked : (words : List ℕ) (byte : ℕ) → bit_and (get_or words (byte / 64) 0) (2 ^ (byte % 64)) ≡ 0
    → is_byte_marked words byte ≡ false
unmarked words byte h =
    let word : ℕ = get_or words (byte / 64) 0 in
    ne_eqb _ 1 (λ (one : bit_at word (byte % 64) ≡ 1).
    let e : bit_and word (2 ^ (byte % 64)) ≡ 1 * 2 ^ (byte % 64) = and_pow word (byte % 64)
    ∙ ap (λ bit. bit * 2 ^ (byte % 64)) one in
    omega (arith, pow_pos (byte % 64)))

pub marked : (words : List ℕ) (byte : ℕ) → (bit_and (get_or words (byte / 64) 0) (2 ^ (byte % 64)) ≡ 0 → ⊥)
    → is_byte_marked words byte ≡ true
marked words byte h =
    let word : ℕ = get_or words (byte / 64) 0 in
    elim (cases_eq (bit_at word (byte % 64)) 1) [
      | inl one ↦ eq-eqb _ 1 one
      | inr other ↦
          let none : bit_at word (byte % 64) ≡ 0 = omega (arith, bit_at-lt word (byte % 64)) in
          let e : bit_and word (2 ^ (byte % 64)) ≡ 0 * 2 ^ (byte % 64) = and_pow word (byte % 64)
          ∙ ap (λ bit. bit * 2 ^ (byte % 64)) none in
          absurd (h (omega arith))
    ]

-- the words after a byte is marked
unfoldable pub with_mark : List ℕ → ℕ → List ℕ
with_mark words at = set words (at / 64) (bit_or (get_or words (at / 64) 0) (2 ^ (at % 64)))

is_byte_marked-set : (words : List ℕ) (at byte : ℕ) → length words ≡ 8 → at < 512 → byte < 512
    → is_byte_marked (with_mark words at) byte ≡ get_or (set (marks_in_words words) at true) byte false
unfolding with_mark
is_byte_marked-set words at byte count h k =
    let word : ℕ = get_or words (at / 64) 0 in
    let v : ℕ = bit_or word (2 ^ (at % 64)) in
    let low : at % 64 < 64 = omega arith in
    let shifted : 2 ^ (at % 64) ≡ 1 * 2 ^ (at % 64) % 2 ^ 64 = sym (one_shl (at % 64) 64 low) in
    let row_in : at / 64 < length words = omega arith in
    let at_in : at < length (marks_in_words words) = omega (arith, length-marks_in_words words) in
    elim (cases_eq byte at) as (λ _. is_byte_marked (set words (at / 64) v) byte
    ≡ get_or (set (marks_in_words words) at true) byte false) [
      | inl same ↦
          rw same
          (ap (λ x. eqb (bit_at x (at % 64)) 1) (get_or-set_same words (at / 64) v 0 row_in)
          ∙ ap (λ x. eqb (bit_at (bit_or word x) (at % 64)) 1) shifted
          ∙ eq-eqb _ 1 (bit_at_set_same w64 word (at % 64) low)
          ∙ sym (get_or-set_same (marks_in_words words) at true false at_in))
      | inr other ↦
          (elim (cases_eq (byte / 64) (at / 64)) as (λ _. is_byte_marked (set words (at / 64) v) byte ≡ is_byte_marked
          words byte) [
            | inl row ↦
                ap (λ x. eqb (bit_at (get_or (set words (at / 64) v) x 0) (byte % 64)) 1) row
                ∙ ap (λ x. eqb (bit_at x (byte % 64)) 1) (get_or-set_same words (at / 64) v 0 row_in)
                ∙ ap (λ x. eqb (bit_at (bit_or word x) (byte % 64)) 1) shifted
                ∙ ap (λ x. eqb x 1) (bit_at_set_other w64 word (at % 64) low (byte % 64) (omega arith))
                ∙ ap (λ x. eqb (bit_at (get_or words x 0) (byte % 64)) 1) (sym row)
            | inr apart ↦ ap (λ x. eqb (bit_at x (byte % 64)) 1) (get_or-set_other words (at / 64) (byte / 64) v 0
                apart)
          ])
          ∙ sym (get_or-marks_in_words words byte k)
          ∙ sym (get_or-set_other (marks_in_words words) at byte true false other)
    ]

pub marks_in_words-with_mark : (words : List ℕ) (at : ℕ) → length words ≡ 8 → at < 512
    → marks_in_words (with_mark words at) ≡ set (marks_in_words words) at true
marks_in_words-with_mark words at count h =
    ext_get_or false _ _
    (length-marks_in_words _ ∙ sym (length-marks_in_words words) ∙ sym (length-set (marks_in_words words) at true))
    (λ byte k.
    let within : byte < 512 = omega (arith, length-marks_in_words (with_mark words at)) in
    get_or-marks_in_words _ byte within ∙ is_byte_marked-set words at byte count h within)

pub AreMarkWords-with_mark : (words : List ℕ) (at : ℕ) → AreMarkWords words → at < 512
    → AreMarkWords (with_mark words at)
unfolding with_mark
AreMarkWords-with_mark words at are h =
    let v : ℕ = bit_or (get_or words (at / 64) 0) (2 ^ (at % 64)) in
    let low : 2 ^ (at % 64) < 2 ^ 64 = pow-lt {i = at % 64} {j = 64} (omega arith) in
    record {
      count = length-set words (at / 64) v ∙ are.count;
      small = λ row.
          elim (cases_eq row (at / 64)) [
            | inl same ↦
                rw (same, get_or-set_same words (at / 64) v 0 (omega (arith, are.count)))
                (or_lt 64 _ _ (are.small (at / 64)) low)
            | inr other ↦ rw (get_or-set_other words (at / 64) row v 0 other) (are.small row)
          ];
    }
