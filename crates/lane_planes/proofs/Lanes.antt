-- What the lanes of a vector are, each by its number.
use Rattle.std.proofs.Common.{◌≡◌, ℕ, ◌+◌, ◌-◌, ◌%◌, ◌^◌, ◌<◌, min, max, Bool, false, cond, ltb, List, map, length}
use Rattle.std.proofs.Common.{replicate, refl, sym, ◌∙◌, ap, w32, arith}
use Rattle.std.{specs.Simd.Lanes.{zip2, sel_l, top}, proofs.Math.Nat.{add-mod_right, mod-eq_of_lt}}
use Rattle.std.proofs.lemmas.{List.{length-map, get_or-map}, Simd.{get_or-sel_l, length-replicate, get_or-replicate}}
use Rattle.std.proofs.lemmas.Simd.{length-zip2, get_or-zip2, tops_compared, length-sel_l}
use Rattle.lane_planes.specs.Writes.{HasLanes}

pub combined : (f : ℕ → ℕ → ℕ) {n : ℕ} {p q : ℕ → ℕ} {xs ys : List ℕ} → HasLanes n p xs → HasLanes n q ys
    → HasLanes n (λ k. f (p k) (q k)) (zip2 f xs ys)
combined f {n} {p} {q} {xs} {ys} in_xs in_ys = record {
  count = length-zip2 f xs ys (in_xs.count ∙ sym in_ys.count) ∙ in_xs.count;
  each = λ k small.
      get_or-zip2 f xs ys k 0 0 0 (omega arith) (omega arith) ∙ rw (in_xs.each k small, in_ys.each k small) refl;
}

pub turned : (f : ℕ → ℕ) {n : ℕ} {p : ℕ → ℕ} {xs : List ℕ} → HasLanes n p xs → HasLanes n (λ k. f (p k)) (map f xs)
turned f {n} {p} {xs} in_xs = record {
  count = length-map xs f ∙ in_xs.count;
  each = λ k small. get_or-map f xs k 0 0 (omega arith) ∙ ap f (in_xs.each k small);
}

-- of two vectors the lane of the one where a test holds, and of the other where it doesn't
selected : (t : ℕ → ℕ → Bool) (n : ℕ) (p q u v : ℕ → ℕ) (xs ys us vs : List ℕ) → HasLanes n p xs → HasLanes n q ys
    → HasLanes n u us → HasLanes n v vs →
    HasLanes n (λ k. cond (t (p k) (q k)) (u k) (v k)) (sel_l (zip2 t xs ys) us vs)
selected t n p q u v xs ys us vs in_xs in_ys in_us in_vs =
    let many : length (zip2 t xs ys) ≡ n = length-zip2 t xs ys (in_xs.count ∙ sym in_ys.count) ∙ in_xs.count in
    record {
      count = length-sel_l (zip2 t xs ys) us vs (many ∙ sym in_us.count) (many ∙ sym in_vs.count) ∙ many;
      each = λ k small.
          get_or-sel_l (zip2 t xs ys) us vs k 0 (omega arith) (omega arith) (omega arith)
          ∙ rw (
            get_or-zip2 t xs ys k 0 0 false (omega arith) (omega arith),
            in_xs.each k small,
            in_ys.each k small,
            in_us.each k small,
            in_vs.each k small,
          ) refl;
    }

same_lanes : (n : ℕ) (p q : ℕ → ℕ) (xs : List ℕ) → ((k : ℕ) → p k ≡ q k) → HasLanes n p xs → HasLanes n q xs
same_lanes n p q xs same in_xs = record { count = in_xs.count; each = λ k small. in_xs.each k small ∙ same k }

lesser_is : (a b : ℕ) → cond (ltb a b) a b ≡ min a b
lesser_is a b = grind arith

greater_is : (a b : ℕ) → cond (ltb a b) b a ≡ max a b
greater_is a b = grind arith

pub lesser : {n : ℕ} {p q : ℕ → ℕ} {xs ys : List ℕ} → HasLanes n p xs → HasLanes n q ys →
    HasLanes n (λ k. min (p k) (q k)) (sel_l (map (top (31)) (zip2 (λ a b. cond (ltb a b) (2 ^ 32 - 1) 0) xs ys)) xs ys)
lesser {n} {p} {q} {xs} {ys} in_xs in_ys =
    rw (tops_compared w32 ltb xs ys)
    (same_lanes n _ _ _ (λ k. lesser_is (p k) (q k)) (selected ltb n p q p q xs ys xs ys in_xs in_ys in_xs in_ys))

pub greater : {n : ℕ} {p q : ℕ → ℕ} {xs ys : List ℕ} → HasLanes n p xs → HasLanes n q ys →
    HasLanes n (λ k. max (p k) (q k)) (sel_l (map (top (31)) (zip2 (λ a b. cond (ltb a b) (2 ^ 32 - 1) 0) xs ys)) ys xs)
greater {n} {p} {q} {xs} {ys} in_xs in_ys =
    rw (tops_compared w32 ltb xs ys)
    (same_lanes n _ _ _ (λ k. greater_is (p k) (q k)) (selected ltb n p q q p xs ys ys xs in_xs in_ys in_ys in_xs))

-- one in each lane
ones : (n : ℕ) → HasLanes n (λ k. 1) (replicate n 1)
ones n = record { count = length-replicate n 1; each = λ k small. get_or-replicate n k 1 0 small }

one_less : (a : ℕ) → a < 2 ^ 32 → (max a 1 + (2 ^ 32 - 1)) % 2 ^ 32 ≡ a - 1
one_less a fits =
    let turn : max a 1 + (2 ^ 32 - 1) ≡ (a - 1) + 2 ^ 32 = omega arith in
    let within : a - 1 < 2 ^ 32 = omega arith in
    ap (λ m. m % 2 ^ 32) turn ∙ add-mod_right (a - 1) (2 ^ 32) ∙ mod-eq_of_lt within

-- a subtraction of one that stops at zero
pub less_one : (n : ℕ) (p : ℕ → ℕ) (ys : List ℕ) → ((k : ℕ) → p k < 2 ^ 32) → HasLanes n p ys →
    HasLanes n (λ k. p k - 1) (zip2 (λ a b. (a + (2 ^ 32 - b)) % 2 ^ 32)
    (sel_l (map (top 31) (zip2 (λ a b. cond (ltb a b) (2 ^ 32 - 1) 0) ys (replicate n 1))) (replicate n 1) ys)
    (replicate n 1))
less_one n p ys fits in_ys =
    same_lanes n _ _ _ (λ k. one_less (p k) (fits k))
    (combined (λ a b. (a + (2 ^ 32 - b)) % 2 ^ 32) (greater in_ys (ones n)) (ones n))
