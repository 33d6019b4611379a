-- Signed quotients and remainders of a width, computed in 64 bits.
use Rattle.std.proofs.Common.{◌≡◌, ◌∙◌, ℕ, suc, zero, ◌/◌, ◌%◌, ◌<◌, ◌≤◌, ◌^◌, ap, refl, arith, ℤ, pos, negsuc}
use Rattle.std.specs.Prelude.{int_div, int_rem, unsigned_abs, FitsSigned, neg_ℤ, if◌then◌else◌, ◌==◌}
use Rattle.std.{specs.Int.{w64, cast_unsigned, cast_signed, int_wrapping_div}, proofs.lemmas.Int.{of_z-to_z, to_z-of_z}}
use Rattle.std.proofs.{lemmas.{Nat.{div-add-mod'}, Bool.Decides.{nat_tests}}, Math.Nat.{div-le_self}}
use Rattle.bpf_insn_types.specs.declared.insn.Width.{Width, TheVariants.{W32, W64}}
use Rattle.bpf_insn_types.specs.Words.{modulus, integers, signed, signed_quotient, signed_remainder}

-- the greatest absolute value of a signed number of the width
abbrev pub half : Width → ℕ
half W32 = 2 ^ 31
half W64 = 2 ^ 63

-- which no number of the width exceeds
pub signed-abs : (width : Width) (a : ℕ) → a < modulus width → unsigned_abs (signed width a) ≤ half width
signed-abs W32 a h = grind (arith, nat_tests)
signed-abs W64 a h = grind (arith, nat_tests)

-- such a number fits 64 bits
signed-fits : (width : Width) (a : ℕ) → a < modulus width → FitsSigned w64 (signed width a)
signed-fits W32 a h = record { sfits = grind (arith, nat_tests) }
signed-fits W64 a h = record { sfits = grind (arith, nat_tests) }

-- the low bits of a signed number's word are its bits at the width
cast-low : (width : Width) (z : ℤ) → unsigned_abs z ≤ half width →
    cast_unsigned w64 z % modulus width ≡ cast_unsigned (integers width) z
cast-low W32 (pos n) h = omega arith
cast-low W32 (negsuc n) h = omega arith
cast-low W64 (pos n) h = omega arith
cast-low W64 (negsuc n) h = omega arith

-- the word of a signed number of the width
cast-word : (width : Width) (z : ℤ) → unsigned_abs z ≤ half width → cast_unsigned w64 z < 2 ^ 64
cast-word W32 (pos n) h = omega arith
cast-word W32 (negsuc n) h = omega arith
cast-word W64 (pos n) h = omega arith
cast-word W64 (negsuc n) h = omega arith

-- the absolute value of a negative
abs-neg : (n : ℕ) → unsigned_abs (neg_ℤ (pos n)) ≡ n
abs-neg zero = refl
abs-neg (suc n) = refl

-- a remainder is not above its dividend, by 0 too
pub rem-le : (a d : ℕ) → a % d ≤ a
rem-le a d = omega (arith, div-add-mod' a d)

-- a signed quotient, and likewise a remainder, is not further from 0 than the dividend
pub div-abs : (a d : ℤ) → unsigned_abs (int_div a d) ≤ unsigned_abs a
div-abs (pos a) (pos d) = div-le_self a d
div-abs (pos a) (negsuc d) = omega (arith, abs-neg (a / suc d), div-le_self a (suc d))
div-abs (negsuc a) (pos d) = omega (arith, abs-neg (suc a / d), div-le_self (suc a) d)
div-abs (negsuc a) (negsuc d) = div-le_self (suc a) (suc d)

pub rem-abs : (a d : ℤ) → unsigned_abs (int_rem a d) ≤ unsigned_abs a
rem-abs (pos a) (pos d) = rem-le a d
rem-abs (pos a) (negsuc d) = rem-le a (suc d)
rem-abs (negsuc a) (pos d) = omega (arith, abs-neg (suc a % d), rem-le (suc a) d)
rem-abs (negsuc a) (negsuc d) = omega (arith, abs-neg (suc a % suc d), rem-le (suc a) (suc d))

-- a number of the width keeps its value in 64 bits
kept-wide : (width : Width) (a : ℕ) (x : ℤ) → a < modulus width → x ≡ signed width a →
    cast_signed w64 (cast_unsigned w64 x) ≡ signed width a
kept-wide width a x h e =
    ap (λ v. cast_signed w64 (cast_unsigned w64 v)) e ∙ to_z-of_z w64 (signed width a) (signed-fits width a h)

-- what is low in the word of q, which has the bits of z
low-of_word : (width : Width) (z q : ℤ) (u r : ℕ) → unsigned_abs z ≤ half width → cast_unsigned w64 q ≡ cast_unsigned
    w64 z →
    u ≡ cast_unsigned w64 (cast_signed w64 (cast_unsigned w64 q)) → r ≡ u % modulus width →
    r ≡ cast_unsigned (integers width) z
low-of_word width z q u r small same word low =
    low
    ∙ ap (λ n. n % modulus width) word
    ∙ ap (λ n. cast_unsigned w64 (cast_signed w64 n) % modulus width) same
    ∙ ap (λ n. n % modulus width) (of_z-to_z w64 (cast_unsigned w64 z) (cast-word width z small))
    ∙ cast-low width z small

-- the other case, where the divisor is not 0
if-not_zero : (b zero_case other r : ℕ) → (b ≡ 0 → ⊥) → r ≡ other → r ≡ (if b == 0 then zero_case else other)
if-not_zero zero x y r h e = absurd (h refl)
if-not_zero (suc b) x y r h e = grind (arith, nat_tests)

-- the low bits of the quotient of 64 bits are the width's quotient
pub quotient-low : (width : Width) (a b : ℕ) (x y q : ℤ) (u r : ℕ) → a < modulus width → b < modulus width →
    (b ≡ 0 → ⊥) → x ≡ signed width a → y ≡ signed width b →
    q ≡ int_wrapping_div w64 (cast_signed w64 (cast_unsigned w64 x)) (cast_signed w64 (cast_unsigned w64 y)) →
    u ≡ cast_unsigned w64 (cast_signed w64 (cast_unsigned w64 q)) → r ≡ u % modulus width →
    r ≡ signed_quotient width a b
quotient-low width a b x y q u r in_a in_b nonzero is_x is_y is_q is_u is_r =
    let z : ℤ = int_div (signed width a) (signed width b) in
    let small : unsigned_abs z ≤ half width =
    omega (arith, div-abs (signed width a) (signed width b), signed-abs width a in_a) in
    let divided : q ≡ cast_signed w64 (cast_unsigned w64 z) =
    is_q ∙ (λ i. int_wrapping_div w64 (kept-wide width a x in_a is_x i) (kept-wide width b y in_b is_y i)) in
    let same : cast_unsigned w64 q ≡ cast_unsigned w64 z =
    ap (cast_unsigned w64) divided ∙ of_z-to_z w64 (cast_unsigned w64 z) (cast-word width z small) in
    if-not_zero b 0 (cast_unsigned (integers width) z) r nonzero (low-of_word width z q u r small same is_u is_r)

-- the low bits of the remainder of 64 bits are the width's remainder
pub remainder-low : (width : Width) (a b : ℕ) (x y q : ℤ) (u r : ℕ) → a < modulus width → b < modulus width →
    (b ≡ 0 → ⊥) → x ≡ signed width a → y ≡ signed width b →
    q ≡ int_rem (cast_signed w64 (cast_unsigned w64 x)) (cast_signed w64 (cast_unsigned w64 y)) →
    u ≡ cast_unsigned w64 (cast_signed w64 (cast_unsigned w64 q)) → r ≡ u % modulus width →
    r ≡ signed_remainder width a b
remainder-low width a b x y q u r in_a in_b nonzero is_x is_y is_q is_u is_r =
    let z : ℤ = int_rem (signed width a) (signed width b) in
    let small : unsigned_abs z ≤ half width =
    omega (arith, rem-abs (signed width a) (signed width b), signed-abs width a in_a) in
    let divided : q ≡ z = is_q ∙ (λ i. int_rem (kept-wide width a x in_a is_x i) (kept-wide width b y in_b is_y i)) in
    if-not_zero b a (cast_unsigned (integers width) z) r nonzero
    (low-of_word width z q u r small (ap (cast_unsigned w64) divided) is_u is_r)
