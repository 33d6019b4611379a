-- Marks, one lane and one site further.
use Rattle.std.proofs.{Common.{◌≡◌, ℕ, ◌+◌, ◌*◌, ◌<◌, ◌≤◌, inl, inr, ap, arith}, lemmas.Bool.{cases_eq, cases_lt}}
use Rattle.std.proofs.Math.Nat.{mul-le-mul_left, mul-add, mul-one}
use Rattle.lane_stamps.specs.{Stamps.{IsBefore}, Marks.{mark_at, top_at}}

-- a number of sites, times a lane that is earlier
pub product_below : (sites lane count : ℕ) → lane ≤ count → sites * lane ≤ sites * count
product_below sites lane count less = mul-le-mul_left sites less

pub product_next : (sites lane : ℕ) → sites * (lane + 1) ≡ sites * lane + sites
product_next sites lane =
    let one : sites * 1 ≡ sites = mul-one sites in
    let sum : sites * (lane + 1) ≡ sites * lane + sites * 1 = mul-add sites lane 1 in
    omega (arith, one, sum)

pub product_before : (sites lane count : ℕ) → lane < count → sites * lane + sites ≤ sites * count
product_before sites lane count less =
    let next : sites * (lane + 1) ≡ sites * lane + sites = product_next sites lane in
    let more : lane + 1 ≤ count = omega (arith, less) in
    let most : sites * (lane + 1) ≤ sites * count = mul-le-mul_left sites more in
    omega (arith, next, most)

module _ (base sites count : ℕ) where
  -- marks are above the base
  pub mark_above : (lane at : ℕ) → lane ≤ count → at < sites
      → base < mark_at (top_at base sites count at) sites lane
  mark_above lane at within inside =
      let most : sites * lane ≤ sites * count = product_below sites lane count within in
      let next : sites * (count + 1) ≡ sites * count + sites = product_next sites count in
      omega (arith, most, next, inside)

  -- the mark of an earlier access is greater
  pub mark_before : (earlier by lane at : ℕ) → lane ≤ count → at < sites → by < sites → IsBefore earlier by lane at
      → mark_at (top_at base sites count at) sites lane < mark_at (top_at base sites count by) sites earlier
  mark_before earlier by lane at within inside also (inl less) =
      let most : sites * lane ≤ sites * count = product_below sites lane count within in
      let next : sites * (count + 1) ≡ sites * count + sites = product_next sites count in
      let before : sites * earlier + sites ≤ sites * lane = product_before sites earlier lane less in
      omega (arith, most, next, before, inside, also)
  mark_before earlier by lane at within inside also (inr same) =
      let most : sites * lane ≤ sites * count = product_below sites lane count within in
      let next : sites * (count + 1) ≡ sites * count + sites = product_next sites count in
      let equal : sites * earlier ≡ sites * lane = ap (λ (n : ℕ). sites * n) same.0 in
      omega (arith, most, next, equal, same.1, inside, also)

  -- and an access with a greater mark is earlier
  pub before_mark : (earlier by lane at : ℕ) → at < sites → by < sites
      → mark_at (top_at base sites count at) sites lane < mark_at (top_at base sites count by) sites earlier
      → IsBefore earlier by lane at
  before_mark earlier by lane at inside also greater = elim (cases_lt earlier lane) [
    | inl less ↦ inl less
    | inr more ↦ elim (cases_eq earlier lane) [
      | inl same ↦
          let equal : sites * earlier ≡ sites * lane = ap (λ (n : ℕ). sites * n) same in
          inr (same, omega (arith, equal, greater, inside, also))
      | inr other ↦
          let less : lane < earlier = omega (arith, more, other) in
          let before : sites * lane + sites ≤ sites * earlier = product_before sites lane earlier less in
          absurd (omega (arith, before, greater, inside, also))
    ]
  ]
