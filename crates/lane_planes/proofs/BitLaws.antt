-- Bits of words.
use Rattle.std.proofs.Common.{◌≡◌, ℕ, ◌+◌, ◌-◌, ◌*◌, ◌%◌, ◌^◌, ◌≤◌, Bool, true, false, cond, ltb, List, map}
use Rattle.std.{proofs.Common.{length, get_or, refl, sym, ◌∙◌, ap, w32, inl, inr, arith}, specs.Prelude.{◌==◌}}
use Rattle.std.{specs.{Int.RustNames.{bit_or}, Simd.Lanes.{zip2, top, mask_l}}, proofs.lemmas.Bool.{cases_lt}}
use Rattle.std.proofs.{Math.Pow.{pow_mono}, lemmas.Nat.{or_shifted, or_comm, or_lt, shl_below, shl_whole}}
use Rattle.std.proofs.lemmas.Nat.Bits.{bit_at_cat_low, bit_at_cat_high}
use Rattle.std.proofs.lemmas.Simd.{length-zip2, get_or-zip2, tops_compared, mask_l-lt, mask_l-mod, bit_mask_l}
use Rattle.lane_planes.specs.{Words.{HasBits}, Writes.{HasLanes}}

one_of : (b : Bool) → (cond b 1 0 == 1) ≡ b
one_of true = refl
one_of false = refl

-- a comparison of two vectors as bits
pub compared : (n : ℕ) (p q : ℕ → ℕ) (xs ys : List ℕ) → n ≤ 64 → HasLanes n p xs → HasLanes n q ys →
    HasBits n (λ k. ltb (p k) (q k)) (mask_l (map (top 31) (zip2 (λ a b. cond (ltb a b) (2 ^ 32 - 1) 0) xs ys)) % 2 ^
    64)
compared n p q xs ys few in_xs in_ys =
    let many : length (zip2 ltb xs ys) ≡ n = length-zip2 ltb xs ys (in_xs.count ∙ sym in_ys.count) ∙ in_xs.count in
    rw (tops_compared w32 ltb xs ys, mask_l-mod (zip2 ltb xs ys) 64 (omega arith)) (record {
      below = rw many at (mask_l-lt (zip2 ltb xs ys));
      each = λ k small.
          ap (λ b. b == 1) (bit_mask_l (zip2 ltb xs ys) k) ∙ one_of (get_or (zip2 ltb xs ys) k false)
          ∙ get_or-zip2 ltb xs ys k 0 0 false (omega arith) (omega arith)
          ∙ rw (in_xs.each k small, in_ys.each k small) refl;
    })

-- more bits above those of a word
pub bits_joined : (test : ℕ → Bool) (from at n word more : ℕ) → at + n ≤ 64 → HasBits at (λ k. test (from + k)) word
    → HasBits n (λ k. test (from + at + k)) more
    → HasBits (at + n) (λ k. test (from + k)) (bit_or word (more * 2 ^ at % 2 ^ 64))
bits_joined test from at n word more room low high =
    let swap : n + at ≡ at + n = omega arith in
    let reach : at ≤ at + n = omega arith in
    let grows : 2 ^ at ≤ 2 ^ (at + n) = pow_mono reach in
    let sum : bit_or word (more * 2 ^ at) ≡ more * 2 ^ at + word = or_comm word (more * 2 ^ at)
    ∙ or_shifted more at word low.below in
    rw (shl_whole more n at 64 high.below (omega arith)) (record {
      below = or_lt (at + n) word (more * 2 ^ at) (omega arith) (rw swap at (shl_below more n at high.below));
      each = λ k small. rw sum (elim (cases_lt k at) [
        | inl earlier ↦ ap (λ b. b == 1) (bit_at_cat_low more at word k earlier) ∙ low.each k earlier
        | inr later ↦
            let there : from + at + (k - at) ≡ from + k = omega arith in
            ap (λ b. b == 1) (bit_at_cat_high more at word k low.below later) ∙ high.each (k - at) (omega arith)
            ∙ ap test there
      ]);
    })
