-- Bits counted and found in runs of words.
use Rattle.std.proofs.Common.{◌≡◌, ℕ, zero, suc, ◌+◌, ◌-◌, ◌*◌, ◌/◌, ◌%◌, ◌^◌, ◌≤◌, ◌<◌, List, [], ◌∷◌, ◌++◌, map}
use Rattle.std.{proofs.Common.{length, take, drop, get_or, ◌∙◌, sym, ap, Fits, w64, inl, inr, arith}}
use Rattle.std.specs.{Simd.{first_chunks, Lanes.{fold_l, chunk}}, Prelude.{count_ones, bit_or}}
use Rattle.std.proofs.Math.Nat.{mod-eq_of_lt, div-mul-le_self, mul-le-mul_right}
use Rattle.std.proofs.lemmas.{Bool.{cases_lt}, List.{drop-drop, drop_more, get_or_past}}
use Rattle.std.proofs.lemmas.{Nat.{ones-le, le_or_l, le_or_r}}
use Rattle.std.proofs.lemmas.Simd.{chunk-drop, chunk-fits, get_or-chunk, Each1-get_or}
use Rattle.loop_core_model.specs.Planes.{set_bits, least_bit}

-- the bits of words in lanes, summed
pub summed : (xs : List ℕ) (a : ℕ) → ((k : ℕ) → Fits w64 (get_or xs k 0)) → a + 64 * length xs < 2 ^ 64
    → fold_l (λ s x. (s + x) % 2 ^ 64) a (map (λ ones. ones) (map count_ones xs)) ≡ a + set_bits xs
summed [] a fit room = omega arith
summed (x ∷ xs) a fit room =
    let few : count_ones x ≤ 64 = ones-le 64 x (fit 0).fits in
    let within : a + count_ones x < 2 ^ 64 = omega arith in
    let step : (a + count_ones x) % 2 ^ 64 ≡ a + count_ones x = mod-eq_of_lt within in
    ap (λ b. fold_l (λ s x. (s + x) % 2 ^ 64) b (map (λ ones. ones) (map count_ones xs))) step
    ∙ summed xs (a + count_ones x) (λ k. fit (suc k)) (omega arith) ∙ omega arith

pub few_bits : (xs : List ℕ) → ((k : ℕ) → Fits w64 (get_or xs k 0)) → set_bits xs ≤ 64 * length xs
few_bits [] fit = omega arith
few_bits (x ∷ xs) fit =
    let few : count_ones x ≤ 64 = ones-le 64 x (fit 0).fits in
    let rest = few_bits xs (λ k. fit (suc k)) in
    omega arith

set_bits-append : (xs ys : List ℕ) → set_bits (xs ++ ys) ≡ set_bits xs + set_bits ys
set_bits-append [] ys = omega arith
set_bits-append (x ∷ xs) ys = let rest = set_bits-append xs ys in omega arith

-- one vector of words more
next_vector : (n i : ℕ) → (i + 1) * n ≡ i * n + n
next_vector n i = omega arith

nth_chunk : {X : Type 0} (n k i : ℕ) (xs : List X) (d : List X) → i < k → get_or (first_chunks n k xs) i d
    ≡ chunk (i * n) n xs
nth_chunk n zero i xs d small = absurd (omega arith)
nth_chunk n (suc k) zero xs d small = ap (λ at. take n (drop at xs)) (let here : 0 ≡ 0 * n = omega arith in here)
nth_chunk n (suc k) (suc i) xs d small =
    let next : n + i * n ≡ suc i * n = omega arith in
    nth_chunk n k i (drop n xs) d (omega arith) ∙ ap (take n) (drop-drop (i * n) n xs ∙ ap (λ at. drop at xs) next)

-- the vectors of words, each by its number; and the bits of the words from there on
pub record IsVector (n i : ℕ) (words vector : List ℕ) : Type 0 where
  pub within : i * n + n ≤ length words
  pub is : vector ≡ chunk (i * n) n words
  pub counted : set_bits (drop (i * n) words) ≡ set_bits vector + set_bits (drop ((i + 1) * n) words)

pub vector_at : (n i : ℕ) (words vector : List ℕ) (vectors : List (List ℕ))
    → vectors ≡ first_chunks n (length words / n) words → length vectors ≡ length words / n →
    i < length vectors → vector ≡ get_or vectors i vector → IsVector n i words vector
vector_at n i words vector vectors are many small is =
    let up : i + 1 ≤ length words / n = omega arith in
    let there = mul-le-mul_right n up in
    let all = div-mul-le_self (length words) n in
    let here : vector ≡ chunk (i * n) n words = is ∙ ap (λ vs. get_or vs i vector) are
    ∙ nth_chunk n (length words / n) i words vector (omega arith) in
    record {
      within = omega (arith, next_vector n i);
      is = here;
      counted = rw (next_vector n i, here) (ap set_bits (chunk-drop (i * n) n words)
          ∙ set_bits-append (chunk (i * n) n words) (drop (i * n + n) words));
    }

pub vector_fits : (n i : ℕ) (words vector : List ℕ) → ((k : ℕ) → Fits w64 (get_or words k 0))
    → IsVector n i words vector → (j : ℕ) → get_or vector j 0 < 2 ^ 64
vector_fits n i words vector fit here j = rw here.is (elim (cases_lt j (length (chunk (i * n) n words))) [
  | inl inside ↦ (Each1-get_or (Fits w64) (chunk (i * n) n words) j 0 inside (chunk-fits w64 (i * n) n words fit)).fits
  | inr past ↦ rw (get_or_past (chunk (i * n) n words) j 0 past) (omega arith)
])

-- the bits of a word, and of those after it
pub word_counted : (i : ℕ) (words : List ℕ) → i < length words → set_bits (drop i words) ≡ count_ones (get_or words i 0)
    + set_bits (drop (i + 1) words)
word_counted i words small = ap set_bits (drop_more words i 0 small)

or_grows : (xs : List ℕ) (a : ℕ) → a ≤ fold_l bit_or a xs
or_grows [] a = omega arith
or_grows (x ∷ xs) a = let here = le_or_l a x in let rest = or_grows xs (bit_or a x) in omega arith

-- no lane is above what all of them are ored to
pub lane_within : (xs : List ℕ) (a k : ℕ) → k < length xs → get_or xs k 0 ≤ fold_l bit_or a xs
lane_within [] a k small = omega arith
lane_within (x ∷ xs) a zero small = let here = le_or_r a x in let rest = or_grows xs (bit_or a x) in omega arith
lane_within (x ∷ xs) a (suc k) small = lane_within xs (bit_or a x) k (omega arith)

-- a run without a bit is passed over
run_passed : (n at : ℕ) (words : List ℕ) → at + n ≤ length words
    → ((k : ℕ) → at ≤ k → k < at + n → get_or words k 0 ≡ 0)
    → least_bit at (drop at words) ≡ least_bit (at + n) (drop (at + n) words)
run_passed zero at words room none = let here : at ≡ at + zero = omega arith in ap (λ i. least_bit i (drop i words))
    here
run_passed (suc n) at words room none =
    let there : at + 1 + n ≡ at + suc n = omega arith in
    ap (least_bit at) (drop_more words at 0 (omega arith))
    ∙ ap (λ word. least_bit at (word ∷ drop (at + 1) words)) (none at (omega arith) (omega arith))
    ∙ run_passed n (at + 1) words (omega arith) (λ k late small. none k (omega arith) (omega arith))
    ∙ ap (λ i. least_bit i (drop i words)) there

-- and a vector
pub vector_passed : (n i : ℕ) (words vector : List ℕ) → IsVector n i words vector
    → ((k : ℕ) → k < n → get_or vector k 0 ≡ 0) →
    least_bit (i * n) (drop (i * n) words) ≡ least_bit ((i + 1) * n) (drop ((i + 1) * n) words)
vector_passed n i words vector here none = rw (next_vector n i) (run_passed n (i * n) words here.within (λ k late small.
    let place : i * n + (k - i * n) ≡ k = omega arith in
    rw place at (sym (get_or-chunk (i * n) n words (k - i * n) 0 (omega arith))
    ∙ ap (λ xs. get_or xs (k - i * n) 0) (sym here.is) ∙ none (k - i * n) (omega arith))))
