-- One bit of a word, tested and ored.
use Rattle.std.proofs.Common.{◌≡◌, ◌≢◌, ℕ, ◌*◌, ◌/◌, ◌%◌, ◌^◌, ◌<◌, not, ◌||◌, eqb, max, List, length, get_or, set}
use Rattle.std.proofs.Common.{refl, sym, ◌∙◌, ap, inl, inr, arith, get_or-set_same, get_or-set_other, eq-eqb, ne_eqb}
use Rattle.std.{specs.{Prelude.{bit_and, bit_or}, Int.{bit_at}}, proofs.{Math.Bool.{or-false}, lemmas.Bool.{cases_eq}}}
use Rattle.std.proofs.lemmas.{Bool.Decides.{nat_tests}, Nat.{pow_pos}}
use Rattle.std.proofs.lemmas.Nat.Bits.{bit_at_or, bit_at-pow_same, bit_at-pow_other, bit_at-lt, and_pow}
use Rattle.array_maps.specs.declared.access.Op.{Op, TheVariants.{Add, Or, And, Xor, AddH}}
use Rattle.loop_core_model.specs.{Actions.{is_same}, Planes.{bit_of}}
use Rattle.shadow_marks.specs.Kept.{place_by}

product_tested : (bit power : ℕ) → bit < 2 → 0 < power → not (eqb (bit * power) 0) ≡ eqb bit 1
product_tested bit power h k =
    elim (cases_eq bit 1) [
      | inl one ↦ rw one (let e : 1 * power ≡ power = omega arith in
          rw e (ap not (ne_eqb power 0 (λ zero. omega arith))))
      | inr other ↦
          let none : bit ≡ 0 = omega arith in
          rw none (let e : 0 * power ≡ 0 = omega arith in rw e refl)
    ]

-- a word met with a power of two tells its bit there
pub bit_tested : (word mask place : ℕ) → mask ≡ 2 ^ place → not (eqb (bit_and word mask) 0) ≡ eqb (bit_at word place) 1
bit_tested word mask place e =
    ap (λ m. not (eqb (bit_and word m) 0)) e
    ∙ ap (λ n. not (eqb n 0)) (and_pow word place)
    ∙ product_tested (bit_at word place) (2 ^ place) (bit_at-lt word place) (pow_pos place)

max_tested : (x y : ℕ) → x < 2 → y < 2 → eqb (max x y) 1 ≡ (eqb x 1 || eqb y 1)
max_tested x y h k = grind (arith, nat_tests)

power_tested : (place k : ℕ) → eqb (bit_at (2 ^ place) k) 1 ≡ eqb k place
power_tested place k =
    elim (cases_eq k place) [
      | inl same ↦ rw same (ap (λ n. eqb n 1) (bit_at-pow_same place) ∙ sym (eq-eqb place place refl))
      | inr other ↦ ap (λ n. eqb n 1) (bit_at-pow_other place k other) ∙ sym (ne_eqb k place other)
    ]

-- ored with one, it has that bit more
pub bit_ored : (word mask place k : ℕ) → mask ≡ 2 ^ place → eqb (bit_at (bit_or word mask) k) 1 ≡ (eqb (bit_at word k) 1
    || eqb k place)
bit_ored word mask place k e =
    ap (λ m. eqb (bit_at (bit_or word m) k) 1) e
    ∙ ap (λ n. eqb n 1) (bit_at_or word (2 ^ place) k)
    ∙ max_tested (bit_at word k) (bit_at (2 ^ place) k) (bit_at-lt word k) (bit_at-lt (2 ^ place) k)
    ∙ ap (λ b. eqb (bit_at word k) 1 || b) (power_tested place k)

-- operators are the same where their places are
pub same_place : (a b : Op) → eqb (place_by a) (place_by b) ≡ is_same a b
same_place Add Add = refl
same_place Or Or = refl
same_place And And = refl
same_place Xor Xor = refl
same_place AddH AddH = refl
same_place _ _ = refl

in_word : (k e : ℕ) → k / 64 ≡ e / 64 → eqb (k % 64) (e % 64) ≡ eqb k e
in_word k e h =
    elim (cases_eq k e) [
      | inl same ↦ rw same (eq-eqb (e % 64) (e % 64) refl ∙ sym (eq-eqb e e refl))
      | inr other ↦ ne_eqb (k % 64) (e % 64) (λ low. other (omega arith)) ∙ sym (ne_eqb k e other)
    ]

-- a plane with an element's bit set
pub bit_set : (words : List ℕ) (e mask k : ℕ) → e / 64 < length words → mask ≡ 2 ^ (e % 64) →
    bit_of (set words (e / 64) (bit_or (get_or words (e / 64) 0) mask)) k ≡ (bit_of words k || eqb k e)
bit_set words e mask k h m =
    let v : ℕ = bit_or (get_or words (e / 64) 0) mask in
    elim (cases_eq (k / 64) (e / 64)) [
      | inl row ↦
          ap (λ r. eqb (bit_at (get_or (set words (e / 64) v) r 0) (k % 64)) 1) row
          ∙ ap (λ w. eqb (bit_at w (k % 64)) 1) (get_or-set_same words (e / 64) v 0 h)
          ∙ bit_ored (get_or words (e / 64) 0) mask (e % 64) (k % 64) m
          ∙ ap (λ b. eqb (bit_at (get_or words (e / 64) 0) (k % 64)) 1 || b) (in_word k e row)
          ∙ ap (λ r. eqb (bit_at (get_or words r 0) (k % 64)) 1 || eqb k e) (sym row)
      | inr apart ↦
          let other : k ≢ e = λ same. apart (ap (λ n. n / 64) same) in
          ap (λ w. eqb (bit_at w (k % 64)) 1) (get_or-set_other words (e / 64) (k / 64) v 0 apart)
          ∙ sym (ap (λ b. bit_of words k || b) (ne_eqb k e other) ∙ or-false (bit_of words k))
    ]
