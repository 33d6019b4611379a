-- Multiples of powers of two, and rounding to them.
use Rattle.std.proofs.Common.{◌≡◌, ◌∙◌, ℕ, zero, suc, ◌+◌, ◌-◌, ◌*◌, ◌/◌, ◌%◌, ◌^◌, ◌<◌, ◌≤◌, min, refl, sym, subst}
use Rattle.std.{proofs.{Common.{arith, ⊎_elim}, lemmas.Bool.{cases_lt}}, specs.Int.Count.{count_trailing_zeros, under}}
use Rattle.std.specs.Int.{◌∣◌, w64, trailing_zeros, next_multiple_of}
use Rattle.std.proofs.Math.Nat.{min-le_left, min-le_right, dvd-mul_right, dvd-mul_left, dvd_trans, dvd-add, dvd-sub}
use Rattle.std.proofs.Math.Nat.{dvd-mod_iff, mul-dvd-mul, dvd-zero, div-mul_cancel, mod_self, mod-eq_of_lt}
use Rattle.std.proofs.Math.Nat.{mul-le-mul_right, div-mul-le_self}
use Rattle.std.proofs.lemmas.Nat.{pow_pos, pow-add, mod-pow-add, mod_below, div-add-mod', shr_split, trailing_le}
use Rattle.std.proofs.lemmas.Nat.Gcd.{dvd_of_mod-eq-zero, mod-eq-zero_of_dvd}
use Rattle.value_range.specs.Spans.{rounded_up, rounded_down}

-- powers divide each other in their order
pub pow-dvd : (i j : ℕ) → i ≤ j → 2 ^ i ∣ 2 ^ j
pow-dvd i j h =
    let e : i + (j - i) ≡ j = omega arith in
    subst (λ (k : ℕ). 2 ^ i ∣ 2 ^ k) e
    (subst (λ (p : ℕ). 2 ^ i ∣ p) (sym (pow-add 2 i (j - i))) (dvd-mul_right (2 ^ i) (2 ^ (j - i))))

-- a multiple of a power is one of each lower power
pub coarser : (i j x : ℕ) → i ≤ j → x % 2 ^ j ≡ 0 → x % 2 ^ i ≡ 0
coarser i j x h e = mod-eq-zero_of_dvd (2 ^ i) (dvd_trans (2 ^ i) (pow-dvd i j h) (dvd_of_mod-eq-zero (2 ^ j) e))

-- a multiple of either power is one of the lesser
pub min-first : (i j x : ℕ) → x % 2 ^ i ≡ 0 → x % 2 ^ min i j ≡ 0
min-first i j x h = coarser (min i j) i x (min-le_left i j) h

pub min-second : (i j x : ℕ) → x % 2 ^ j ≡ 0 → x % 2 ^ min i j ≡ 0
min-second i j x h = coarser (min i j) j x (min-le_right i j) h

-- every number is a multiple of 2 ^ 0
pub multiple-zero : (x : ℕ) → x % 2 ^ 0 ≡ 0
multiple-zero x = omega arith

-- zero is a multiple
pub zero-multiple : (z : ℕ) → 0 % 2 ^ z ≡ 0
zero-multiple z = mod-eq-zero_of_dvd (2 ^ z) (dvd-zero (2 ^ z))

pub multiple-add : (z a b : ℕ) → a % 2 ^ z ≡ 0 → b % 2 ^ z ≡ 0 → (a + b) % 2 ^ z ≡ 0
multiple-add z a b h k = mod-eq-zero_of_dvd (2 ^ z) (dvd-add (2 ^ z) (dvd_of_mod-eq-zero (2 ^ z) h)
    (dvd_of_mod-eq-zero (2 ^ z) k))

pub multiple-sub : (z a b : ℕ) → a % 2 ^ z ≡ 0 → b % 2 ^ z ≡ 0 → (a - b) % 2 ^ z ≡ 0
multiple-sub z a b h k = mod-eq-zero_of_dvd (2 ^ z) (dvd-sub (2 ^ z) (dvd_of_mod-eq-zero (2 ^ z) h)
    (dvd_of_mod-eq-zero (2 ^ z) k))

pub multiple-mul : (i j a b : ℕ) → a % 2 ^ i ≡ 0 → b % 2 ^ j ≡ 0 → (a * b) % 2 ^ (i + j) ≡ 0
multiple-mul i j a b h k =
    rw (pow-add 2 i j) (mod-eq-zero_of_dvd (2 ^ i * 2 ^ j) (mul-dvd-mul (2 ^ i) (2 ^ j) (dvd_of_mod-eq-zero (2 ^ i) h)
    (dvd_of_mod-eq-zero (2 ^ j) k)))

-- a power is a multiple of itself
pub pow-multiple : (z : ℕ) → 2 ^ z % 2 ^ z ≡ 0
pow-multiple z = mod_self (2 ^ z)

-- a multiple stays one modulo a power, whichever of the powers is greater
pub multiple-wrap : (z w n : ℕ) → n % 2 ^ z ≡ 0 → n % 2 ^ w % 2 ^ z ≡ 0
multiple-wrap z w n h =
    ⊎_elim
    (λ (l : w < z). subst (λ (m : ℕ). m % 2 ^ z ≡ 0) (sym (coarser w z n (omega arith) h)) (zero-multiple z))
    (λ (l : z ≤ w). mod-eq-zero_of_dvd (2 ^ z) ((dvd-mod_iff (2 ^ z) (pow-dvd z w l)).1 (dvd_of_mod-eq-zero (2 ^ z) h)))
    (cases_lt w z)

no-more : (b p r : ℕ) → b ≡ 0 → r ≡ 0 → b * p + r ≡ 0
no-more b p r h k = rw (h, k) (omega arith)

-- a number is a multiple of its trailing zeros, however many digits are looked at
trailing-any : (k n : ℕ) → n % 2 ^ count_trailing_zeros k n ≡ 0
unfolding count_trailing_zeros
trailing-any zero n = multiple-zero n
trailing-any (suc k) n = go (n % 2) refl (trailing-any k (n / 2))
  where
    go : (r : ℕ) → n % 2 ≡ r → n / 2 % 2 ^ count_trailing_zeros k (n / 2) ≡ 0
        → n % 2 ^ under r (count_trailing_zeros k (n / 2)) ≡ 0
    go zero even half =
        let t = count_trailing_zeros k (n / 2) in
        let e : t + 1 ≡ suc t = omega arith in
        subst (λ (z : ℕ). n % 2 ^ z ≡ 0) e (mod-pow-add n t 1 ∙ no-more (n / 2 % 2 ^ t) 2 (n % 2) half even)
    go (suc r) odd half = multiple-zero n

pub trailing-multiple : (n : ℕ) → n % 2 ^ trailing_zeros w64 n ≡ 0
trailing-multiple n = trailing-any 64 n

pub trailing-most : (n : ℕ) → trailing_zeros w64 n ≤ 64
trailing-most n = trailing_le 64 n

-- two multiples that differ are a power apart
pub apart : (z a b : ℕ) → a % 2 ^ z ≡ 0 → b % 2 ^ z ≡ 0 → a < b → a + 2 ^ z ≤ b
apart z a b h k l =
    let p = 2 ^ z in
    let e : a / p * p ≡ a = div-mul_cancel p (dvd_of_mod-eq-zero p h) in
    let f : b / p * p ≡ b = div-mul_cancel p (dvd_of_mod-eq-zero p k) in
    ⊎_elim
    (λ (m : a / p < b / p). omega (arith, mul-le-mul_right p m, e, f))
    (λ (m : b / p ≤ a / p). absurd (omega (arith, mul-le-mul_right p m, e, f)))
    (cases_lt (a / p) (b / p))

-- rounding down
pub down-most : (z n : ℕ) → rounded_down z n ≤ n
unfolding rounded_down
down-most z n = div-mul-le_self n (2 ^ z)

pub down-multiple : (z n : ℕ) → rounded_down z n % 2 ^ z ≡ 0
unfolding rounded_down
down-multiple z n = mod-eq-zero_of_dvd (2 ^ z) (dvd-mul_left (2 ^ z) (n / 2 ^ z))

pub down-least : (z n x : ℕ) → x % 2 ^ z ≡ 0 → x ≤ n → x ≤ rounded_down z n
unfolding rounded_down
down-least z n x h l =
    let p = 2 ^ z in
    let q = n / p in
    let below : n < q * p + p = omega (arith, mod_below n p (pow_pos z), shr_split n z) in
    ⊎_elim
    (λ (m : q * p < x). absurd (omega (arith, apart z (q * p) x (down-multiple z n) h m, below)))
    (λ (m : x ≤ q * p). m)
    (cases_lt (q * p) x)

-- rounding up
pub up-least : (z n : ℕ) → n ≤ rounded_up z n
unfolding rounded_up
up-least z n = omega arith

up-stays : (p n : ℕ) → 0 < p → n % p ≡ 0 → next_multiple_of n p ≡ n
up-stays p n h e =
    let whole : p - 0 ≡ p = omega arith in
    rw (e, whole, mod_self p) (omega arith)

up-moves : (p n : ℕ) → 0 < p → 0 < n % p → next_multiple_of n p ≡ n / p * p + p
up-moves p n h k =
    let e : (p - n % p) % p ≡ p - n % p = mod-eq_of_lt (omega arith) in
    omega (arith, e, div-add-mod' n p, mod_below n p h)

pub up-multiple : (z n : ℕ) → rounded_up z n % 2 ^ z ≡ 0
unfolding rounded_up
up-multiple z n =
    let p = 2 ^ z in
    ⊎_elim
    (λ (m : 0 < n % p). rw (up-moves p n (pow_pos z) m)
    (multiple-add z (n / p * p) p (mod-eq-zero_of_dvd p (dvd-mul_left p (n / p))) (pow-multiple z)))
    (λ (m : n % p ≤ 0). let none : n % p ≡ 0 = omega arith in rw (up-stays p n (pow_pos z) none) none)
    (cases_lt 0 (n % p))

pub up-most : (z n x : ℕ) → x % 2 ^ z ≡ 0 → n ≤ x → rounded_up z n ≤ x
unfolding rounded_up
up-most z n x h l =
    let p = 2 ^ z in
    let base : n / p * p % p ≡ 0 = mod-eq-zero_of_dvd p (dvd-mul_left p (n / p)) in
    ⊎_elim
    (λ (m : 0 < n % p).
    let under : n / p * p < x = omega (arith, div-add-mod' n p) in
    omega (arith, up-moves p n (pow_pos z) m, apart z (n / p * p) x base h under))
    (λ (m : n % p ≤ 0). omega (arith, up-stays p n (pow_pos z) (omega arith)))
    (cases_lt 0 (n % p))
