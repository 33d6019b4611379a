-- The elements of a plane are counted by the bits of its words.
use Rattle.std.proofs.Common.{◌≡◌, ℕ, zero, suc, ◌+◌, ◌*◌, ◌/◌, ◌%◌, ◌^◌, ◌≤◌, ◌<◌, Bool, true, false, cond, List, []}
use Rattle.std.proofs.Common.{◌∷◌, ◌++◌, length, map, refl, sym, ◌∙◌, ap, ap₂, subst, arith, Option, Some, None}
use Rattle.std.specs.{Prelude.{◌==◌, count_ones, slice_index_or}, Int.{w64, bit_at, trailing_zeros}}
use Rattle.std.specs.{Int.Count.{ones_step}, List.{filter, range_with_len}, Option.{option_map}}
use Rattle.std.proofs.{Math.Nat.{pow-suc}, lemmas.{Bool.Decides.{nat_tests}, List.{length-map, length-append}}}
use Rattle.std.proofs.lemmas.{List.Elements.{filter-append}, Nat.{ones_le_self}}
use Rattle.std.proofs.lemmas.Nat.Bits.{bit_at_lowest, bit_at-suc, bit_at-zero, bit_at-trailing_zeros}
use Rattle.std.proofs.{Common.{inl, inr}, lemmas.Bool.{cases_Bool, eqb-true, eqb-false}}
use Rattle.array_maps.specs.MapList.{AreWords}
use Rattle.loop_core_model.specs.{declared.verdict.Verdict.TheVariants.{Conflict}, Report.{judged}}
use Rattle.loop_core_model.specs.Planes.{bit_of, elements_in_plane, least_element_in, judged_by, set_bits, least_bit}
use Rattle.loop_core_model.{specs.Planes.{PlaneJudges}, proofs.PlaneLaws.{range-append, filter-same, filter-none}}

-- the places of a word's bits that are set
unfoldable bits_in : (width word : ℕ) → List ℕ
bits_in width word = filter (λ i. bit_at word i == 1) (range_with_len 0 width)

-- a test that is moved passes the numbers that are moved
filter-moved : (p q : ℕ → Bool) (k from count : ℕ) → ((e : ℕ) → p (k + e) ≡ q e) →
    filter p (range_with_len (k + from) count) ≡ map (λ e. k + e) (filter q (range_with_len from count))
filter-moved p q k from zero same = refl
filter-moved p q k from (suc count) same =
    let there : k + from + 1 ≡ k + (from + 1) = omega arith in
    rw (same from, there, filter-moved p q k (from + 1) count same) (go (q from) (filter q (range_with_len (from + 1)
    count)))
  where
    go : (b : Bool) (ys : List ℕ) → cond b ((k + from) ∷ map (λ e. k + e) ys) (map (λ e. k + e) ys)
        ≡ map (λ e. k + e) (cond b (from ∷ ys) ys)
    go true ys = refl
    go false ys = refl

-- the elements of a plane: the bits of its first word, and those of the others 64 on
elements-cons : (width : ℕ) → width ≡ 64 → (word : ℕ) (words : List ℕ) →
    elements_in_plane (word ∷ words) ≡ bits_in width word ++ map (λ e. width + e) (elements_in_plane words)
unfolding bits_in
elements-cons width wide word words =
    let parts : 64 * length (word ∷ words) ≡ width + 64 * length words = omega (arith, wide) in
    let on : 0 + width ≡ width + 0 = omega arith in
    ap (λ n. filter (bit_of (word ∷ words)) (range_with_len 0 n)) parts
    ∙ ap (filter (bit_of (word ∷ words))) (range-append 0 width (64 * length words))
    ∙ filter-append (bit_of (word ∷ words)) (range_with_len 0 width) (range_with_len (0 + width) (64 * length words))
    ∙ ap₂ (λ xs ys. xs ++ ys) (filter-same (bit_of (word ∷ words)) (λ i. bit_at word i == 1) 0 width
    (λ e low high. in_first e (omega (arith, wide))))
    (ap (λ n. filter (bit_of (word ∷ words)) (range_with_len n (64 * length words))) on
    ∙ filter-moved (bit_of (word ∷ words)) (bit_of words) width 0 (64 * length words) behind_first)
  where
    at_place : (i j k m : ℕ) → i ≡ j → k ≡ m → (bit_at (slice_index_or (word ∷ words) i 0) k == 1)
        ≡ (bit_at (slice_index_or (word ∷ words) j 0) m == 1)
    at_place i j k m e f = ap₂ (λ a b. bit_at (slice_index_or (word ∷ words) a 0) b == 1) e f

    in_first : (e : ℕ) → e < 64 → bit_of (word ∷ words) e ≡ (bit_at word e == 1)
    in_first e h = at_place (e / 64) 0 (e % 64) e (omega arith) (omega arith)

    behind_first : (e : ℕ) → bit_of (word ∷ words) (width + e) ≡ bit_of words e
    behind_first e = at_place ((width + e) / 64) (suc (e / 64)) ((width + e) % 64) (e % 64) (omega (arith, wide))
        (omega (arith, wide))

-- n bits are set
bits_in-count : (width word : ℕ) → word < 2 ^ width → length (bits_in width word) ≡ count_ones word
unfolding bits_in
bits_in-count zero word h =
    let none : word ≡ 0 = omega arith in
    let few : count_ones 0 ≤ 0 = ones_le_self 0 in
    rw none (omega arith)
bits_in-count (suc width) word h =
    let half : word / 2 < 2 ^ width = halved (2 ^ width) (subst (λ (n : ℕ). word < n) (pow-suc 2 width) h) in
    let rest : length (filter (λ i. bit_at word i == 1) (range_with_len 1 width)) ≡ count_ones (word / 2) =
    ap length (filter-moved (λ i. bit_at word i == 1) (λ i. bit_at (word / 2) i == 1) 1 0 width (λ e. next e))
    ∙ length-map (filter (λ i. bit_at (word / 2) i == 1) (range_with_len 0 width)) (λ e. 1 + e)
    ∙ bits_in-count width (word / 2) half in
    let low : bit_at word 0 ≡ word % 2 = bit_at_lowest word in
    let step : count_ones word ≡ word % 2 + count_ones (word / 2) = ones_step word in
    elim (cases_Bool (bit_at word 0 == 1)) [
      | inl one ↦ (let is : bit_at word 0 ≡ 1 = eqb-true (bit_at word 0) 1 one in rw one (omega arith))
      | inr none ↦ (let other = eqb-false (bit_at word 0) 1 none in rw none (omega arith))
    ]
  where
    halved : (n : ℕ) → word < n * 2 → word / 2 < n
    halved n less = omega arith

    next : (e : ℕ) → (bit_at word (1 + e) == 1) ≡ (bit_at (word / 2) e == 1)
    next e = let on : 1 + e ≡ suc e = omega arith in ap (λ n. n == 1) (ap (bit_at word) on ∙ bit_at-suc word e)

-- the least number that passes
least-filter : (p : ℕ → Bool) (from count at : ℕ) → at < count → p (from + at) ≡ true
    → ((i : ℕ) → i < at → p (from + i) ≡ false) →
    least_element_in (filter p (range_with_len from count)) ≡ Some (from + at)
least-filter p from zero at h here below = absurd (omega arith)
least-filter p from (suc count) zero h here below =
    let at_first : from + 0 ≡ from = omega arith in
    let on : p from ≡ true = rw at_first at here in
    rw (on, at_first) refl
least-filter p from (suc count) (suc at) h here below =
    let at_first : from ≡ from + 0 = omega arith in
    let off : p from ≡ false = ap p at_first ∙ below 0 (omega arith) in
    let on : (i : ℕ) → from + 1 + i ≡ from + suc i = λ i. omega arith in
    rw off (least-filter p (from + 1) count at (omega arith) (ap p (on at) ∙ here)
    (λ i less. ap p (on i) ∙ below (suc i) (omega arith)) ∙ ap Some (on at))

bits_in-least : (width word : ℕ) → width ≡ 64 → word < 2 ^ 64 → 0 < word → least_element_in (bits_in width word)
    ≡ Some (trailing_zeros w64 word)
unfolding bits_in
bits_in-least width word wide fits some =
    let lowest : (trailing_zeros w64 word < 64) × (bit_at word (trailing_zeros w64 word) ≡ 1)
    × ((i : ℕ) → i < trailing_zeros w64 word → bit_at word i ≡ 0) =
    bit_at-trailing_zeros w64 word some fits in
    least-filter (λ i. bit_at word i == 1) 0 width (trailing_zeros w64 word) (omega (arith, wide, lowest.0))
    (place (trailing_zeros w64 word) 1 lowest.1) (λ i less. place i 0 (lowest.2 i less))
    ∙ ap Some (let on : 0 + trailing_zeros w64 word ≡ trailing_zeros w64 word = omega arith in on)
  where
    place : (i bit : ℕ) → bit_at word i ≡ bit → (bit_at word (0 + i) == 1) ≡ (bit == 1)
    place i bit is = let on : 0 + i ≡ i = omega arith in ap (λ n. n == 1) (ap (bit_at word) on ∙ is)

bits_in-none : (width : ℕ) → bits_in width 0 ≡ []
unfolding bits_in
bits_in-none width = filter-none (λ i. bit_at 0 i == 1) 0 width (λ e low high. ap (λ n. n == 1) (bit_at-zero e))

elements-count : (width : ℕ) → width ≡ 64 → (words : List ℕ) → AreWords words → length (elements_in_plane words)
    ≡ set_bits words
elements-count width wide [] are = refl
elements-count width wide (word ∷ words) are =
    let fits : word < 2 ^ width = subst (λ (n : ℕ). word < 2 ^ n) (sym wide) are.0 in
    ap length (elements-cons width wide word words)
    ∙ length-append (bits_in width word) (map (λ e. width + e) (elements_in_plane words))
    ∙ ap₂ (λ m n. m + n) (bits_in-count width word fits)
    (length-map (elements_in_plane words) (λ e. width + e) ∙ elements-count width wide words are.1)

least-append : (xs ys : List ℕ) (least : ℕ) → least_element_in xs ≡ Some least → least_element_in (xs ++ ys)
    ≡ Some least
least-append [] ys least is = cc
least-append (x ∷ xs) ys least is = is

least-moved : (width k : ℕ) → width ≡ 64 → (es : List ℕ) →
    option_map (λ e. 64 * k + e) (least_element_in (map (λ e. width + e) es)) ≡ option_map (λ e. 64 * (k + 1) + e)
    (least_element_in es)
least-moved width k wide [] = refl
least-moved width k wide (e ∷ es) = let on : 64 * k + (width + e) ≡ 64 * (k + 1) + e = omega (arith, wide) in ap Some on

elements-least : (width : ℕ) → width ≡ 64 → (k : ℕ) (words : List ℕ) → AreWords words
    → option_map (λ e. 64 * k + e) (least_element_in (elements_in_plane words)) ≡ least_bit k words
elements-least width wide k [] are = refl
elements-least width wide k (word ∷ words) are =
    ap (λ es. option_map (λ e. 64 * k + e) (least_element_in es)) (elements-cons width wide word words)
    ∙ elim (cases_Bool (word == 0)) [
      | inl is ↦
          let zero_is : word ≡ 0 = grind (arith, nat_tests) in
          rw (is, zero_is, bits_in-none width) (least-moved width k wide (elements_in_plane words)
          ∙ elements-least width wide (k + 1) words are.1)
      | inr is ↦
          let some : 0 < word = grind (arith, nat_tests) in
          rw is (ap (option_map (λ e. 64 * k + e)) (least-append (bits_in width word) (map (λ e. width + e)
          (elements_in_plane words)) (trailing_zeros w64 word) (bits_in-least width word wide are.0 some)))
    ]

from_zero : (o : Option ℕ) → option_map (λ e. 64 * 0 + e) o ≡ o
from_zero None = refl
from_zero (Some e) = let on : 64 * 0 + e ≡ e = omega arith in ap Some on

elements-first : (words : List ℕ) → AreWords words → least_element_in (elements_in_plane words) ≡ least_bit 0 words
elements-first words are = sym (from_zero (least_element_in (elements_in_plane words)))
    ∙ elements-least 64 refl 0 words are

count_and_least : (elements : List ℕ) → judged_by (length elements) (least_element_in elements) ≡ judged elements
count_and_least [] = refl
count_and_least (least ∷ others) = let one_more : suc (length others) ≡ length others + 1 = omega arith in
    ap (λ count. Conflict count least) one_more

pub plane_judges : PlaneJudges
plane_judges = record {
  count = elements-count 64 refl;
  least = elements-first;
  verdict = λ words are.
      ap₂ judged_by (sym (elements-count 64 refl words are)) (sym (elements-first words are))
      ∙ count_and_least (elements_in_plane words);
}
