-- Shifts, masks and what is left of equal words, as they are computed.
use Rattle.std.proofs.Common.{◌≡◌, ◌∙◌, ℕ, ◌+◌, ◌-◌, ◌*◌, ◌/◌, ◌%◌, ◌^◌, ◌<◌, ◌≤◌, min, max, refl, sym, ap, arith}
use Rattle.std.specs.{Int.{w64, leading_zeros}, declared.option.Option.TheVariants.{None, Some}}
use Rattle.std.proofs.{Math.Nat.{mod-eq_of_lt}, lemmas.Nat.{mul-le, leading_le, shl_whole, one_shl, Bits.{ones_shr}}}
use Rattle.std.proofs.lemmas.Bool.{lt-ltb, le-ltb}
use Rattle.bpf_insn_types.{specs.{declared.insn.Width.{Width}, Words.{modulus}}, proofs.WordLaws.{modulus-most}}
use Rattle.value_range.specs.{Spans.{Span, IsSpan, rounded_up, rounded_down, norm}, RefineRows.{equal}}
use Rattle.value_range.specs.AluRows.{filled, shifted_left_by}
use Rattle.value_range.proofs.{Multiples.{down-multiple, up-most, up-least}, SpanLaws.{norm-rounded}}
use Rattle.value_range.proofs.{RefineSpans.{few-zeros}, RowBounds.{below-filled, filled-least}}

-- rounding inward leaves nothing where the greatest multiple is below the least number
pub equal-none : (a b : Span) (z lo hi h : ℕ) → z ≡ max a.zeros b.zeros → lo ≡ max a.lo b.lo → hi ≡ min a.hi b.hi →
    h ≡ rounded_down z hi → h < lo → None ≡ equal a b
unfolding equal
equal-none a b z lo hi h is_z is_lo is_hi is_h empty =
    let below : h < rounded_up z lo = omega (arith, up-least z lo) in
    rw (← is_z, ← is_lo, ← is_hi, ← is_h, lt-ltb h (rounded_up z lo) below) refl

-- what is left of the bounds has a multiple between them
pub equal-within : (z lo hi h : ℕ) → h ≡ rounded_down z hi → lo ≤ h → rounded_up z lo ≤ h
equal-within z lo hi h is_h more = up-most z lo h (rw is_h (down-multiple z hi)) more

pub equal-some : (a b r : Span) (z lo hi h : ℕ) → z ≡ max a.zeros b.zeros → lo ≡ max a.lo b.lo → hi ≡ min a.hi b.hi →
    h ≡ rounded_down z hi → lo ≤ h → r ≡ norm lo h z → Some (r, r) ≡ equal a b
unfolding equal
equal-some a b r z lo hi h is_z is_lo is_hi is_h more is_r =
    let some : rounded_up z lo ≤ h = equal-within z lo hi h is_h more in
    rw (← is_z, ← is_lo, ← is_hi, ← is_h, is_r, norm-rounded lo h z, le-ltb h (rounded_up z lo) some) refl

pub step-shifted : (s : Span) → IsSpan s → (s.lo ≡ s.hi → ⊥) → 1 * 2 ^ s.zeros % 2 ^ 64 ≡ 2 ^ s.zeros
step-shifted s i several = one_shl s.zeros 64 (few-zeros s i several)

-- a shift in 128 bits loses nothing, nor does one whose result is a word
shl-wide : (x s : ℕ) → x < 2 ^ 64 → s < 64 → x * 2 ^ s % 2 ^ 128 ≡ x * 2 ^ s
shl-wide x s word few = shl_whole x 64 s 128 word (omega arith)

shl-word : (x y s : ℕ) → x ≤ y → y * 2 ^ s < 2 ^ 64 → x * 2 ^ s % 2 ^ 64 ≡ x * 2 ^ s
shl-word x y s h word = mod-eq_of_lt (omega (arith, mul-le x (2 ^ s) y (2 ^ s) h (omega arith)))

-- so the bounds are the shifted ones
pub left-bounds : (width : Width) (a : Span) (s l h hi : ℕ) → IsSpan a → s < 64 → l ≡ a.lo → h ≡ a.hi →
    hi ≡ h * 2 ^ s % 2 ^ 128 → hi < modulus width → (l * 2 ^ s % 2 ^ 64 ≡ a.lo * 2 ^ s) × (hi ≡ a.hi * 2 ^ s)
left-bounds width a s l h hi i few is_l is_h is_hi within =
    let greatest : hi ≡ a.hi * 2 ^ s = is_hi ∙ ap (λ (x : ℕ). x * 2 ^ s % 2 ^ 128) is_h ∙ shl-wide a.hi s i.word few in
    let word : a.hi * 2 ^ s < 2 ^ 64 = omega (arith, greatest, within, modulus-most width) in
    (ap (λ (x : ℕ). x * 2 ^ s % 2 ^ 64) is_l ∙ shl-word a.lo a.hi s i.ordered word, greatest)

-- the row of a known amount
pub left-row : (width : Width) (a : Span) (s hi : ℕ) → hi ≡ a.hi * 2 ^ s → hi < modulus width →
    norm (a.lo * 2 ^ s) hi (min (a.zeros + s) 64) ≡ shifted_left_by width a s
unfolding shifted_left_by
left-row width a s hi is_hi within =
    let inside : a.hi * 2 ^ s < modulus width = omega arith in
    rw (is_hi, lt-ltb (a.hi * 2 ^ s) (modulus width) inside) refl

-- all bits that a word may have
pub filled-ones : (x : ℕ) → (2 ^ 64 - 1) / 2 ^ leading_zeros w64 x ≡ filled x
unfolding filled
filled-ones x = ones_shr 64 (leading_zeros w64 x) (leading_le 64 x)

pub filled-most : (x : ℕ) → x < 2 ^ 64 → x ≤ filled x
unfolding filled
filled-most x word = omega (arith, below-filled x x word (omega arith))

pub filled-zero : (x : ℕ) → x ≡ 0 → 0 ≡ filled x
filled-zero x e = sym (omega (arith, filled-least x 0 (omega arith) (omega arith)))
