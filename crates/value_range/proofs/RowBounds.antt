-- What each row's bounds have between them, and that there is something.
use Rattle.std.proofs.Common.{◌≡◌, ◌∙◌, ℕ, ◌+◌, ◌-◌, ◌*◌, ◌/◌, ◌%◌, ◌^◌, ◌<◌, ◌≤◌, min, max, refl, sym, ap, subst}
use Rattle.std.{proofs.Common.{arith, inl, inr, ⊎_elim}, specs.Prelude.{◌⊎◌, bit_and, bit_or, bit_xor}}
use Rattle.std.{specs.Int.{w64, leading_zeros}, proofs.Math.Nat.{le-min, max-le, div-mul-le_self, zero-div, pow-suc}}
use Rattle.std.proofs.lemmas.Nat.{mul-le, pow_pos, and_le_l, and_le_r, or_lt, xor_lt, le_or_l, le_or_r, and_mod, or_mod}
use Rattle.std.proofs.{lemmas.{Nat.{xor_mod, leading_length, le-div, field_of}, Bool.{cases_lt}}, Math.Pow.{pow_mono}}
use Rattle.value_range.specs.{Spans.{Span, IsSpan, Contains, rounded_up}, AluRows.{filled}}
use Rattle.value_range.proofs.Multiples.{min-first, min-second, zero-multiple, multiple-zero, multiple-add}
use Rattle.value_range.proofs.Multiples.{multiple-sub, multiple-mul, pow-multiple, up-most}
use Rattle.value_range.proofs.SpanLaws.{IsSpanWith, lo-in, either-max}

-- a number lies between bounds, and is a multiple
abbrev pub Between : ℕ → ℕ → ℕ → ℕ → Type 0
Between lo hi zeros x = Contains (record { lo = lo; hi = hi; zeros = zeros }) x

-- so there is one
pub some-between : (lo hi z x : ℕ) → Between lo hi z x → rounded_up z lo ≤ hi
some-between lo hi z x b = omega (arith, up-most z lo x b.multiple b.above, b.below)

-- from 0 there is always 0
pub zero_some : (z hi : ℕ) → rounded_up z 0 ≤ hi
zero_some z hi = omega (arith, up-most z 0 0 (zero-multiple z) (omega arith))

module _ {a b : Span} {x y : ℕ} (c : Contains a x) (d : Contains b y) where
  -- sums
  pub sum-between : Between (a.lo + b.lo) (a.hi + b.hi) (min a.zeros b.zeros) (x + y)
  sum-between = record {
    above = omega (arith, c.above, d.above);
    below = omega (arith, c.below, d.below);
    multiple = multiple-add (min a.zeros b.zeros) x y (min-first a.zeros b.zeros x c.multiple)
        (min-second a.zeros b.zeros y d.multiple);
  }

  -- differences
  pub difference-between : Between (a.lo - b.hi) (a.hi - b.lo) (min a.zeros b.zeros) (x - y)
  difference-between = record {
    above = omega (arith, c.above, d.below);
    below = omega (arith, c.below, d.above);
    multiple = multiple-sub (min a.zeros b.zeros) x y (min-first a.zeros b.zeros x c.multiple)
        (min-second a.zeros b.zeros y d.multiple);
  }

  -- products
  pub product-between : Between (a.lo * b.lo) (a.hi * b.hi) (min (a.zeros + b.zeros) 64) (x * y)
  product-between = record {
    above = mul-le a.lo b.lo x y c.above d.above;
    below = mul-le x y a.hi b.hi c.below d.below;
    multiple = min-first (a.zeros + b.zeros) 64 (x * y) (multiple-mul a.zeros b.zeros x y c.multiple d.multiple);
  }

module _ (a b : Span) (i : IsSpan a) (j : IsSpan b) where
  pub added_some : rounded_up (min a.zeros b.zeros) (a.lo + b.lo) ≤ a.hi + b.hi
  added_some = some-between _ _ _ _ (sum-between (lo-in a i) (lo-in b j))

  pub subtracted_some : rounded_up (min a.zeros b.zeros) (a.lo - b.hi) ≤ a.hi - b.lo
  subtracted_some = some-between _ _ _ _ (difference-between (lo-in a i) (lo-in b j))

  pub multiplied_some : rounded_up (min (a.zeros + b.zeros) 64) (a.lo * b.lo) ≤ a.hi * b.hi
  multiplied_some = some-between _ _ _ _ (product-between (lo-in a i) (lo-in b j))

div-mono : (n x y : ℕ) → 0 < n → x ≤ y → x / n ≤ y / n
div-mono n x y pos h = le-div (x / n) y n pos (omega (arith, div-mul-le_self x n))

pub quotient-between : (a : Span) (n x : ℕ) → 0 < n → Contains a x → Between (a.lo / n) (a.hi / n) 0 (x / n)
quotient-between a n x pos c = record {
  above = div-mono n a.lo x pos c.above;
  below = div-mono n x a.hi pos c.below;
  multiple = multiple-zero (x / n);
}

-- every bit that a word may have is below the filled word
pub below-filled : (x y : ℕ) → x < 2 ^ 64 → y ≤ x → y < 2 ^ (64 - leading_zeros w64 x)
below-filled x y word h =
    let length = leading_length 64 x word in
    let e : 64 - leading_zeros w64 x ≡ length.0 = omega (arith, length.1) in
    subst (λ (k : ℕ). y < 2 ^ k) (sym e) (omega (arith, length.2))

-- low bits that are clear in both
or-multiple : (z x y : ℕ) → x % 2 ^ z ≡ 0 → y % 2 ^ z ≡ 0 → bit_or x y % 2 ^ z ≡ 0
or-multiple z x y h k = or_mod x y z ∙ rw (h, k) refl

xor-multiple : (z x y : ℕ) → x % 2 ^ z ≡ 0 → y % 2 ^ z ≡ 0 → bit_xor x y % 2 ^ z ≡ 0
xor-multiple z x y h k = xor_mod x y z ∙ rw (h, k) refl

nothing : {n : ℕ} → n ≤ 0 → n ≡ 0
nothing h = omega arith

-- low bits that are clear in one are so in what both have
and-multiple : (z x y : ℕ) → (x % 2 ^ z ≡ 0) ⊎ (y % 2 ^ z ≡ 0) → bit_and x y % 2 ^ z ≡ 0
and-multiple z x y e =
    and_mod x y z
    ∙ ⊎_elim
    (λ (h : x % 2 ^ z ≡ 0). rw h (nothing (and_le_l 0 (y % 2 ^ z))))
    (λ (h : y % 2 ^ z ≡ 0). rw h (nothing (and_le_r (x % 2 ^ z) 0)))
    e

pub or-word : (a b : Span) → IsSpan a → IsSpan b → bit_or a.hi b.hi < 2 ^ 64
or-word a b i j = or_lt 64 a.hi b.hi i.word j.word

module _ {a b : Span} {x y : ℕ} (p : IsSpanWith a x) (q : IsSpanWith b y) where
  both-below : (x < 2 ^ (64 - leading_zeros w64 (bit_or a.hi b.hi)))
      × (y < 2 ^ (64 - leading_zeros w64 (bit_or a.hi b.hi)))
  both-below =
      let below = λ (n : ℕ). below-filled (bit_or a.hi b.hi) n (or-word a b p.span q.span) in (
        below x (omega (arith, le_or_l a.hi b.hi, p.contains.below)),
        below y (omega (arith, le_or_r a.hi b.hi, q.contains.below)),
      )

  -- the bits of either
  pub or-between : Between (max a.lo b.lo) (filled (bit_or a.hi b.hi)) (min a.zeros b.zeros) (bit_or x y)
  unfolding filled
  or-between = record {
    above = max-le (omega (arith, p.contains.above, le_or_l x y)) (omega (arith, q.contains.above, le_or_r x y));
    below = omega (
      arith,
      or_lt (64 - leading_zeros w64 (bit_or a.hi b.hi)) x y both-below.0 both-below.1,
    );
    multiple = or-multiple (min a.zeros b.zeros) x y (min-first a.zeros b.zeros x p.contains.multiple)
        (min-second a.zeros b.zeros y q.contains.multiple);
  }

  -- the bits of one alone
  pub xor-between : Between 0 (filled (bit_or a.hi b.hi)) (min a.zeros b.zeros) (bit_xor x y)
  unfolding filled
  xor-between = record {
    above = omega arith;
    below = omega (
      arith,
      xor_lt (64 - leading_zeros w64 (bit_or a.hi b.hi)) x y both-below.0 both-below.1,
    );
    multiple = xor-multiple (min a.zeros b.zeros) x y (min-first a.zeros b.zeros x p.contains.multiple)
        (min-second a.zeros b.zeros y q.contains.multiple);
  }

  -- the bits of both
  pub and-between : Between 0 (min a.hi b.hi) (max a.zeros b.zeros) (bit_and x y)
  and-between = record {
    above = omega arith;
    below = le-min (omega (arith, p.contains.below, and_le_l x y)) (omega (arith, q.contains.below, and_le_r x y));
    multiple = and-multiple (max a.zeros b.zeros) x y
        (either-max (λ z. (x % 2 ^ z ≡ 0) ⊎ (y % 2 ^ z ≡ 0)) a.zeros b.zeros (inl p.contains.multiple)
        (inr q.contains.multiple));
  }

-- shifts to the left
pub left-between : (a : Span) (s x : ℕ) → Contains a x → Between (a.lo * 2 ^ s) (a.hi * 2 ^ s) (min (a.zeros + s) 64)
    (x * 2 ^ s)
left-between a s x c = record {
  above = mul-le a.lo (2 ^ s) x (2 ^ s) c.above (omega arith);
  below = mul-le x (2 ^ s) a.hi (2 ^ s) c.below (omega arith);
  multiple = min-first (a.zeros + s) 64 (x * 2 ^ s) (multiple-mul a.zeros s x (2 ^ s) c.multiple (pow-multiple s));
}

-- shifts to the right
right-multiple : (z s x : ℕ) → x % 2 ^ z ≡ 0 → x / 2 ^ s % 2 ^ (z - s) ≡ 0
right-multiple z s x h =
    ⊎_elim
    (λ (l : z < s).
    let e : z - s ≡ 0 = omega arith in
    subst (λ (k : ℕ). x / 2 ^ s % 2 ^ k ≡ 0) (sym e) (multiple-zero (x / 2 ^ s)))
    (λ (l : s ≤ z).
    let e : z - s + s ≡ z = omega arith in
    sym (field_of x (z - s) s)
    ∙ ap (λ (k : ℕ). x % 2 ^ k / 2 ^ s) e
    ∙ ap (λ (n : ℕ). n / 2 ^ s) h
    ∙ zero-div (2 ^ s))
    (cases_lt z s)

pub right-between : (a : Span) (s x : ℕ) → Contains a x → Between (a.lo / 2 ^ s) (a.hi / 2 ^ s) (a.zeros - s)
    (x / 2 ^ s)
right-between a s x c = record {
  above = div-mono (2 ^ s) a.lo x (pow_pos s) c.above;
  below = div-mono (2 ^ s) x a.hi (pow_pos s) c.below;
  multiple = right-multiple a.zeros s x c.multiple;
}

pub filled-least : (x k : ℕ) → x < 2 ^ 64 → x < 2 ^ k → filled x < 2 ^ k
unfolding filled
filled-least x k word h =
    let length = leading_length 64 x word in
    let e : 64 - leading_zeros w64 x ≡ length.0 = omega (arith, length.1) in
    subst (λ (m : ℕ). 2 ^ m - 1 < 2 ^ k) (sym e)
    (⊎_elim
    (λ (l : k < length.0). absurd (omega (arith, length.3, h, pow_mono l, pow-suc 2 k)))
    (λ (l : length.0 ≤ k). omega (arith, pow_mono l, pow_pos length.0))
    (cases_lt k length.0))
