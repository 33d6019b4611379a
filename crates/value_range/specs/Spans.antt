-- Spans of words: the numbers from a least to a greatest that are multiples of a power of two.
use Rattle.std.specs.Prelude.{◌≡◌, ℕ, ◌-◌, ◌/◌, ◌*◌, ◌%◌, ◌^◌, ◌<◌, ◌≤◌, min, max, Bool, ◌==◌, if◌then◌else◌}
use Rattle.std.specs.Int.{w64, trailing_zeros, next_multiple_of}
use Rattle.bpf_insn_types.specs.{declared.insn.Width.{Width}, Words.{modulus}}

-- the numbers from lo to hi that are multiples of 2 ^ zeros
pub record Span : Type 0 where
  pub lo : ℕ
  pub hi : ℕ
  pub zeros : ℕ

-- its least and its greatest number are such words
pub record IsSpan (span : Span) : Type 0 where
  pub ordered : span.lo ≤ span.hi
  pub word : span.hi < 2 ^ 64
  pub bits : span.zeros ≤ 64
  pub lo_multiple : span.lo % 2 ^ span.zeros ≡ 0
  pub hi_multiple : span.hi % 2 ^ span.zeros ≡ 0

-- a number is one of a span's
pub record Contains (span : Span) (number : ℕ) : Type 0 where
  pub above : span.lo ≤ number
  pub below : number ≤ span.hi
  pub multiple : number % 2 ^ span.zeros ≡ 0

-- whether a span has one number alone
abbrev pub is_exact : Span → Bool
is_exact span = span.lo == span.hi

-- one word alone; 0 has 64 trailing zeros
abbrev pub exact : ℕ → Span
exact number = record { lo = number; hi = number; zeros = trailing_zeros w64 number }

-- every number of the width
abbrev pub top : Width → Span
top width = record { lo = 0; hi = modulus width - 1; zeros = 0 }

-- the least multiple of 2 ^ zeros that is not below a number
unfoldable pub rounded_up : ℕ → ℕ → ℕ
rounded_up zeros number = next_multiple_of number (2 ^ zeros)

-- the greatest multiple of 2 ^ zeros that is not above a number
unfoldable pub rounded_down : ℕ → ℕ → ℕ
rounded_down zeros number = number / 2 ^ zeros * 2 ^ zeros

-- the multiples of 2 ^ zeros from lo to hi; one alone is exact
unfoldable pub norm : ℕ → ℕ → ℕ → Span
unfolding rounded_up rounded_down
norm lo hi zeros =
    if rounded_up zeros lo == rounded_down zeros hi then exact (rounded_up zeros lo)
    else record { lo = rounded_up zeros lo; hi = rounded_down zeros hi; zeros = zeros }

-- the least lo, the greatest hi and the lesser zeros of both
abbrev pub join : Span → Span → Span
join a b = record { lo = min a.lo b.lo; hi = max a.hi b.hi; zeros = min a.zeros b.zeros }
