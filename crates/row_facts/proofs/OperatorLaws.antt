-- Operators on words, as sums, products and remainders.
use Rattle.std.proofs.Common.{◌≡◌, ◌∙◌, ℕ, ◌+◌, ◌-◌, ◌*◌, ◌/◌, ◌%◌, ◌^◌, ◌<◌, ◌≤◌, refl, sym, ap, subst, arith, ⊎_elim}
use Rattle.std.specs.{Prelude.{bit_and, bit_or, bit_xor}, Int.Bits.{or_shifted, xor_shifted}}
use Rattle.std.proofs.Math.Nat.{mod-mod_of_dvd, add-mod, add-mod_left, mod-add-mod, mod-eq_of_lt, div-mul_cancel}
use Rattle.std.proofs.{Math.Nat.{mul_comm, add-mul-mod_self_left, mod_self, zero-mul}, lemmas.Bool.{cases_lt}}
use Rattle.std.proofs.lemmas.Nat.{mul-mod, pow_pos, mod_below, and_mask, and_mod, or_mod, xor_mod, or_lt, or_comm}
use Rattle.std.proofs.lemmas.Nat.{xor_comm, one_shl, shr_split, Gcd.{dvd_of_mod-eq-zero, mod-eq-zero_of_dvd}}
use Rattle.bpf_insn_types.specs.{declared.insn.Width.TheVariants.{W32, W64}, Words.{alu}}
use Rattle.bpf_insn_types.specs.declared.insn.AluOp.TheVariants.{Add, Sub, Mul, Or, And, Xor, Lsh, Rsh, Mov}
use Rattle.value_range.proofs.Multiples.{pow-dvd, multiple-sub}
use Rattle.row_facts.{specs.Facts.{IsSumOfBits}, proofs.Congruence.{same-sum, same-product, cancel}}

pub alu-mov : (x y : ℕ) → y < 2 ^ 64 → alu W64 Mov x y ≡ y
unfolding alu
alu-mov x y h = mod-eq_of_lt h

pub alu-add : (x y : ℕ) → alu W64 Add x y ≡ (x + y) % 2 ^ 64
unfolding alu
alu-add x y = sym (add-mod x y (2 ^ 64))

pub alu-mul : (x y : ℕ) → alu W64 Mul x y ≡ (x * y) % 2 ^ 64
unfolding alu
alu-mul x y = sym (mul-mod x y (2 ^ 64))

-- the product with one less than the modulus is the negative
negative : (m y : ℕ) → 0 < m → y ≤ m → (y * (m - 1)) % m ≡ (m - y) % m
negative m y h k =
    let whole : m - 1 + 1 ≡ m = omega arith in
    let product : y * (m - 1) + y ≡ y * m = omega (arith, ap (λ (n : ℕ). y * n) whole) in
    let back : m - y + y ≡ m = omega arith in
    cancel m (y * (m - 1)) (m - y) y h (ap (λ (n : ℕ). n % m) product ∙ none ∙ sym (mod_self m) ∙ ap (λ (n : ℕ). n %
    m) (sym back))
  where
    none : (y * m) % m ≡ 0
    none = ap (λ (n : ℕ). n % m) (mul_comm y m) ∙ zeros
      where
        zeros : (m * y) % m ≡ 0
        zeros = let e : m * y ≡ 0 + m * y = omega arith in
            ap (λ (n : ℕ). n % m) e ∙ add-mul-mod_self_left 0 m y ∙ mod-eq_of_lt h

pub alu-sub : (x y : ℕ) → x < 2 ^ 64 → y < 2 ^ 64 → alu W64 Sub x y ≡ (x + (y * (2 ^ 64 - 1)) % 2 ^ 64) % 2 ^ 64
unfolding alu
alu-sub x y h k =
    rw (mod-eq_of_lt h, mod-eq_of_lt k)
    (same-sum (2 ^ 64) x x (2 ^ 64 - y) ((y * (2 ^ 64 - 1)) % 2 ^ 64) refl
    (sym (mod-mod_of_dvd (2 ^ 64) (y * (2 ^ 64 - 1)) (pow-dvd 64 64 (omega arith)) ∙ negative (2 ^ 64) y (pow_pos 64)
    (omega arith))))

pub alu-lsh : (x n : ℕ) → x < 2 ^ 64 → n < 2 ^ 64 → alu W64 Lsh x n ≡ (x * (1 * 2 ^ (n % 64) % 2 ^ 64)) % 2 ^ 64
unfolding alu
alu-lsh x n h k =
    rw (mod-eq_of_lt h, mod-eq_of_lt k, one_shl (n % 64) 64 (mod_below n 64 (omega arith))) refl

pub alu-rsh : (x n : ℕ) → x < 2 ^ 64 → n < 2 ^ 64 → alu W64 Rsh x n ≡ x / 2 ^ (n % 64)
unfolding alu
alu-rsh x n h k =
    rw (mod-eq_of_lt h, mod-eq_of_lt k) refl

-- a number whose complement is a multiple of a power has its low bits set
low-ones : (k n : ℕ) → k ≤ 64 → n < 2 ^ 64 → (2 ^ 64 - 1 - n) % 2 ^ k ≡ 0 → n % 2 ^ k ≡ 2 ^ k - 1
low-ones k n h l e =
    let p = 2 ^ k in
    let rest : 2 ^ 64 - (2 ^ 64 - 1 - n) ≡ n + 1 = omega arith in
    let zero : (n + 1) % p ≡ 0 =
    ap (λ (j : ℕ). j % p) (sym rest)
    ∙ multiple-sub k (2 ^ 64) (2 ^ 64 - 1 - n) (mod-eq-zero_of_dvd p (pow-dvd k 64 h)) e in
    let next : (n % p + 1) % p ≡ 0 = mod-add-mod n p 1 ∙ zero in
    ⊎_elim
    (λ (m : n % p + 1 < p). absurd (omega (arith, sym (mod-eq_of_lt m) ∙ next)))
    (λ (m : p ≤ n % p + 1). omega (arith, mod_below n p (pow_pos k)))
    (cases_lt (n % p + 1) p)

pub alu-and : (k x n : ℕ) → k ≤ 64 → x < 2 ^ 64 → n < 2 ^ 64 → (2 ^ 64 - 1 - n) % 2 ^ k ≡ 0 →
    alu W64 And x n % 2 ^ k ≡ x % 2 ^ k
unfolding alu
alu-and k x n h i j e =
    rw (mod-eq_of_lt i, mod-eq_of_lt j)
    (and_mod x n k ∙ ap (λ (m : ℕ). bit_and (x % 2 ^ k) m) (low-ones k n h j e) ∙ and_mask (x % 2 ^ k) k
    ∙ mod-mod_of_dvd (2 ^ k) x (pow-dvd k k (omega arith)))

-- of numbers with no bit in common either operator gives the sum
pub alu-or : (x y : ℕ) → x < 2 ^ 64 → y < 2 ^ 64 → IsSumOfBits x y → alu W64 Or x y ≡ (x + y) % 2 ^ 64
unfolding alu
alu-or x y h k e =
    let small : x + y < 2 ^ 64 = subst (λ (n : ℕ). n < 2 ^ 64) e.by_or (or_lt 64 x y h k) in
    rw (mod-eq_of_lt h, mod-eq_of_lt k) (e.by_or ∙ sym (mod-eq_of_lt small))

pub alu-xor : (x y : ℕ) → x < 2 ^ 64 → y < 2 ^ 64 → IsSumOfBits x y → alu W64 Xor x y ≡ (x + y) % 2 ^ 64
unfolding alu
alu-xor x y h k e =
    let small : x + y < 2 ^ 64 = subst (λ (n : ℕ). n < 2 ^ 64) e.by_or (or_lt 64 x y h k) in
    rw (mod-eq_of_lt h, mod-eq_of_lt k) (e.by_xor ∙ sym (mod-eq_of_lt small))

-- a word that is shifted to nothing
pub shifted-away : (k n : ℕ) → n / 2 ^ k ≡ 0 → n < 2 ^ k
shifted-away k n e =
    let whole : 0 * 2 ^ k + n % 2 ^ k ≡ n = ap (λ (q : ℕ). q * 2 ^ k + n % 2 ^ k) (sym e) ∙ shr_split n k in
    omega (arith, whole, zero-mul (2 ^ k), mod_below n (2 ^ k) (pow_pos k))

-- a multiple of a power, and a number below it
pub sum-of-bits : (k x y : ℕ) → x % 2 ^ k ≡ 0 → y < 2 ^ k → IsSumOfBits x y
sum-of-bits k x y e h =
    let p = 2 ^ k in
    let whole : x / p * p ≡ x = div-mul_cancel p (dvd_of_mod-eq-zero p e) in
    record {
      by_or = subst (λ (n : ℕ). bit_or n y ≡ n + y) whole (or_shifted (x / p) k y h);
      by_xor = subst (λ (n : ℕ). bit_xor n y ≡ n + y) whole (xor_shifted (x / p) k y h);
    }

pub sum-of-bits_turned : (x y : ℕ) → IsSumOfBits x y → IsSumOfBits y x
sum-of-bits_turned x y e = record {
  by_or = or_comm y x ∙ e.by_or ∙ omega arith;
  by_xor = xor_comm y x ∙ e.by_xor ∙ omega arith;
}

-- the lower half of a word, by the upper one
pub area-left : (lo hi x n : ℕ) → lo ≤ x → x ≤ hi → hi < 2 ^ 64 → hi / 2 ^ 32 ≡ lo / 2 ^ 32 → n ≡ lo / 2 ^ 32 * 2 ^ 32 →
    alu W64 Sub x n ≡ x % 2 ^ 32
unfolding alu
area-left lo hi x n h k l e f =
    let first : x % 2 ^ 64 ≡ x = mod-eq_of_lt (omega arith) in
    let second : n % 2 ^ 64 ≡ n = mod-eq_of_lt (omega arith) in
    let back : x + (2 ^ 64 - n) ≡ 2 ^ 64 + x % 2 ^ 32 = omega arith in
    let small : x % 2 ^ 32 < 2 ^ 64 = omega arith in
    rw (first, second, back, add-mod_left (2 ^ 64) (x % 2 ^ 32)) (mod-eq_of_lt small)

-- the lower half of a word
pub half : (x : ℕ) → x % 2 ^ 64 % 2 ^ 32 ≡ x % 2 ^ 32
half x = mod-mod_of_dvd (2 ^ 32) x (pow-dvd 32 64 (omega arith))

pub twice : (x : ℕ) → x % 2 ^ 32 % 2 ^ 32 ≡ x % 2 ^ 32
twice x = mod-mod_of_dvd (2 ^ 32) x (pow-dvd 32 32 (omega arith))

-- these operators give at 32 bits the lower half of what they give at 64
pub lower-add : (x y : ℕ) → alu W32 Add x y ≡ alu W64 Add x y % 2 ^ 32
unfolding alu
lower-add x y = sym (half (x % 2 ^ 64 + y % 2 ^ 64)
    ∙ same-sum (2 ^ 32) (x % 2 ^ 64) (x % 2 ^ 32) (y % 2 ^ 64) (y % 2 ^ 32) (half x ∙ sym (twice x)) (half y ∙ sym
    (twice y)))

pub lower-mul : (x y : ℕ) → alu W32 Mul x y ≡ alu W64 Mul x y % 2 ^ 32
unfolding alu
lower-mul x y = sym (half (x % 2 ^ 64 * (y % 2 ^ 64))
    ∙ same-product (2 ^ 32) (x % 2 ^ 64) (x % 2 ^ 32) (y % 2 ^ 64) (y % 2 ^ 32) (half x ∙ sym (twice x)) (half y ∙
    sym (twice y)))

lower-negative : (y : ℕ) → (2 ^ 64 - y % 2 ^ 64) % 2 ^ 32 ≡ (2 ^ 32 - y % 2 ^ 32) % 2 ^ 32
lower-negative y =
    let a = y % 2 ^ 64 in
    let b = y % 2 ^ 32 in
    let first : 2 ^ 64 - a + a ≡ 2 ^ 64 = omega (arith, mod_below y (2 ^ 64) (pow_pos 64)) in
    let second : 2 ^ 32 - b + b ≡ 2 ^ 32 = omega (arith, mod_below y (2 ^ 32) (pow_pos 32)) in
    let sums : (2 ^ 64 - a + a) % 2 ^ 32 ≡ (2 ^ 32 - b + b) % 2 ^ 32 =
    ap (λ (n : ℕ). n % 2 ^ 32) first ∙ ap (λ (n : ℕ). n % 2 ^ 32) (sym second) in
    cancel (2 ^ 32) (2 ^ 64 - a) (2 ^ 32 - b) a (pow_pos 32)
    (sums ∙ same-sum (2 ^ 32) (2 ^ 32 - b) (2 ^ 32 - b) b a refl (twice y ∙ sym (half y)))

pub lower-sub : (x y : ℕ) → alu W32 Sub x y ≡ alu W64 Sub x y % 2 ^ 32
unfolding alu
lower-sub x y = sym (half (x % 2 ^ 64 + (2 ^ 64 - y % 2 ^ 64))
    ∙ same-sum (2 ^ 32) (x % 2 ^ 64) (x % 2 ^ 32) (2 ^ 64 - y % 2 ^ 64) (2 ^ 32 - y % 2 ^ 32) (half x ∙ sym (twice x))
    (lower-negative y))

pub lower-or : (x y : ℕ) → alu W32 Or x y ≡ alu W64 Or x y % 2 ^ 32
unfolding alu
lower-or x y = sym (or_mod (x % 2 ^ 64) (y % 2 ^ 64) 32 ∙ rw (half x, half y) refl)

pub lower-and : (x y : ℕ) → alu W32 And x y ≡ alu W64 And x y % 2 ^ 32
unfolding alu
lower-and x y = sym (and_mod (x % 2 ^ 64) (y % 2 ^ 64) 32 ∙ rw (half x, half y) refl)

pub lower-xor : (x y : ℕ) → alu W32 Xor x y ≡ alu W64 Xor x y % 2 ^ 32
unfolding alu
lower-xor x y = sym (xor_mod (x % 2 ^ 64) (y % 2 ^ 64) 32 ∙ rw (half x, half y) refl)

pub lower-mov : (x y : ℕ) → alu W32 Mov x y ≡ alu W64 Mov x y % 2 ^ 32
unfolding alu
lower-mov x y = sym (half y)

pub lower-lsh : (x y : ℕ) → y < 32 → alu W32 Lsh x y ≡ alu W64 Lsh x y % 2 ^ 32
unfolding alu
lower-lsh x y h =
    let first : y % 2 ^ 32 % 32 ≡ y = ap (λ (n : ℕ). n % 32) (mod-eq_of_lt (omega arith)) ∙ mod-eq_of_lt h in
    let second : y % 2 ^ 64 % 64 ≡ y = ap (λ (n : ℕ). n % 64) (mod-eq_of_lt (omega arith)) ∙ mod-eq_of_lt (omega
    arith) in
    rw (first, second)
    (sym (half (x % 2 ^ 64 * 2 ^ y)
    ∙ same-product (2 ^ 32) (x % 2 ^ 64) (x % 2 ^ 32) (2 ^ y) (2 ^ y) (half x ∙ sym (twice x)) refl))
