-- Numbers that are the same modulo a power of two.
use Rattle.std.proofs.Common.{◌≡◌, ◌∙◌, ℕ, ◌+◌, ◌-◌, ◌*◌, ◌/◌, ◌%◌, ◌^◌, ◌<◌, ◌≤◌, refl, sym, ap, subst, arith}
use Rattle.std.proofs.Math.Nat.{mod-mod_of_dvd, add-mod, add-mul, mul_assoc, mul_comm, mul_right_comm, div-mul_cancel}
use Rattle.std.proofs.Math.Nat.{add-mod_right, add-mul-mod_self_left, mod-add-div, mod-eq_of_lt}
use Rattle.std.proofs.{Math.Nat.{mul-lt-mul_of_pos_right}, lemmas.Nat.Gcd.{dvd_of_mod-eq-zero, mod-eq-zero_of_dvd}}
use Rattle.std.proofs.lemmas.Nat.{mul-mod, pow-add, field_of, shl-shr, pow_pos, mod_below}
use Rattle.value_range.proofs.Multiples.{pow-dvd}

-- so they are modulo a lower one
pub coarse : (i j a b : ℕ) → i ≤ j → a % 2 ^ j ≡ b % 2 ^ j → a % 2 ^ i ≡ b % 2 ^ i
coarse i j a b h e =
    sym (mod-mod_of_dvd (2 ^ i) a (pow-dvd i j h)) ∙ ap (λ (n : ℕ). n % 2 ^ i) e ∙ mod-mod_of_dvd (2 ^ i) b (pow-dvd
    i j h)

-- a number is the same as the word that it wraps to
pub wraps : (i a : ℕ) → i ≤ 64 → a % 2 ^ 64 % 2 ^ i ≡ a % 2 ^ i
wraps i a h = mod-mod_of_dvd (2 ^ i) a (pow-dvd i 64 h)

pub same-sum : (m a b c d : ℕ) → a % m ≡ b % m → c % m ≡ d % m → (a + c) % m ≡ (b + d) % m
same-sum m a b c d h k = add-mod a c m ∙ ap (λ (n : ℕ). (n + c % m) % m) h ∙ ap (λ (n : ℕ). (b % m + n) % m) k
    ∙ sym (add-mod b d m)

pub same-product : (m a b c d : ℕ) → a % m ≡ b % m → c % m ≡ d % m → (a * c) % m ≡ (b * d) % m
same-product m a b c d h k = mul-mod a c m ∙ ap (λ (n : ℕ). (n * (c % m)) % m) h ∙ ap (λ (n : ℕ). (b % m * n) % m) k
    ∙ sym (mul-mod b d m)

-- a line of words is the line of the numbers that they wrap from
pub line-wraps : (i s o index : ℕ) → i ≤ 64 →
    (s % 2 ^ 64 * index + o % 2 ^ 64) % 2 ^ i ≡ (s * index + o) % 2 ^ i
line-wraps i s o index h = same-sum (2 ^ i) (s % 2 ^ 64 * index) (s * index) (o % 2 ^ 64) o
    (same-product (2 ^ i) (s % 2 ^ 64) s index index (wraps i s h) refl) (wraps i o h)

regroup : (s o t p index : ℕ) → (s * index + o) + (t * index + p) ≡ (s + t) * index + (o + p)
regroup s o t p index = omega (arith, add-mul s t index)

pub line-sum : (i b c s o t p index x y : ℕ) → i ≤ b → i ≤ c → i ≤ 64 →
    x % 2 ^ b ≡ (s * index + o) % 2 ^ b → y % 2 ^ c ≡ (t * index + p) % 2 ^ c →
    (x + y) % 2 ^ 64 % 2 ^ i ≡ ((s + t) % 2 ^ 64 * index + (o + p) % 2 ^ 64) % 2 ^ i
line-sum i b c s o t p index x y h k l e f =
    wraps i (x + y) l
    ∙ same-sum (2 ^ i) x (s * index + o) y (t * index + p) (coarse i b x (s * index + o) h e) (coarse i c y (t *
    index + p) k f)
    ∙ ap (λ (n : ℕ). n % 2 ^ i) (regroup s o t p index)
    ∙ sym (line-wraps i (s + t) (o + p) index l)

-- a remainder and the modulus, both multiplied
multiplied : (n m p : ℕ) → 0 < m → 0 < p → (n * p) % (m * p) ≡ n % m * p
multiplied n m p h k =
    let e : n * p ≡ n % m * p + m * p * (n / m) =
    ap (λ (j : ℕ). j * p) (sym (mod-add-div n m)) ∙ add-mul (n % m) (m * (n / m)) p
    ∙ ap (λ (j : ℕ). n % m * p + j) (mul_right_comm m (n / m) p) in
    ap (λ (j : ℕ). j % (m * p)) e ∙ add-mul-mod_self_left (n % m * p) (m * p) (n / m)
    ∙ mod-eq_of_lt (mul-lt-mul_of_pos_right (mod_below n m h) k)

-- products with a multiple of a power are the same modulo a power that is greater by it
pub same-multiple : (b t f x y : ℕ) → f % 2 ^ t ≡ 0 → x % 2 ^ b ≡ y % 2 ^ b → (x * f) % 2 ^ (b + t) ≡ (y * f) % 2 ^
    (b + t)
same-multiple b t f x y h e =
    let p = 2 ^ t in
    let g = f / p in
    let whole : g * p ≡ f = div-mul_cancel p (dvd_of_mod-eq-zero p h) in
    let one : (x * p) % (2 ^ b * p) ≡ (y * p) % (2 ^ b * p) =
    multiplied x (2 ^ b) p (pow_pos b) (pow_pos t) ∙ ap (λ (n : ℕ). n * p) e ∙ sym (multiplied y (2 ^ b) p (pow_pos
    b) (pow_pos t)) in
    let two : (x * p) % 2 ^ (b + t) ≡ (y * p) % 2 ^ (b + t) =
    subst (λ (m : ℕ). (x * p) % m ≡ (y * p) % m) (sym (pow-add 2 b t)) one in
    let turned : (n : ℕ) → n * p * g ≡ n * f = λ n. mul_assoc n p g ∙ ap (λ (k : ℕ). n * k) (mul_comm p g ∙ whole) in
    ap (λ (n : ℕ). n % 2 ^ (b + t)) (sym (turned x))
    ∙ same-product (2 ^ (b + t)) (x * p) (y * p) g g two refl
    ∙ ap (λ (n : ℕ). n % 2 ^ (b + t)) (turned y)

spread : (s o f index : ℕ) → (s * index + o) * f ≡ s * f * index + o * f
spread s o f index = add-mul (s * index) o f ∙ ap (λ (n : ℕ). n + o * f) (mul_right_comm s index f)

pub line-product : (i b t f s o index x : ℕ) → i ≤ b + t → i ≤ 64 → f % 2 ^ t ≡ 0 →
    x % 2 ^ b ≡ (s * index + o) % 2 ^ b →
    (x * f) % 2 ^ 64 % 2 ^ i ≡ (s * f % 2 ^ 64 * index + o * f % 2 ^ 64) % 2 ^ i
line-product i b t f s o index x h l m e =
    wraps i (x * f) l
    ∙ coarse i (b + t) (x * f) ((s * index + o) * f) h (same-multiple b t f x (s * index + o) m e)
    ∙ ap (λ (n : ℕ). n % 2 ^ i) (spread s o f index)
    ∙ sym (line-wraps i (s * f) (o * f) index l)

-- of a line whose scale and offset are multiples of a power the quotients are on one
pub line-quotient : (b t s o index x : ℕ) → t ≤ b → s % 2 ^ t ≡ 0 → o % 2 ^ t ≡ 0 →
    x % 2 ^ b ≡ (s * index + o) % 2 ^ b →
    x / 2 ^ t % 2 ^ (b - t) ≡ (s / 2 ^ t * index + o / 2 ^ t) % 2 ^ (b - t)
line-quotient b t s o index x h k l e =
    let p = 2 ^ t in
    let c = b - t in
    let whole : c + t ≡ b = omega arith in
    let first : s / p * p ≡ s = div-mul_cancel p (dvd_of_mod-eq-zero p k) in
    let second : o / p * p ≡ o = div-mul_cancel p (dvd_of_mod-eq-zero p l) in
    let line : s * index + o ≡ (s / p * index + o / p) * p =
    sym (spread (s / p) (o / p) p index ∙ ap (λ (n : ℕ). n * index + o / p * p) first ∙ ap (λ (n : ℕ). s * index + n)
    second) in
    let same : x % 2 ^ (c + t) ≡ (s / p * index + o / p) * p % 2 ^ (c + t) =
    subst (λ (n : ℕ). x % 2 ^ n ≡ (s / p * index + o / p) * p % 2 ^ n) (sym whole) (e ∙ ap (λ (n : ℕ). n % 2 ^ b)
    line) in
    sym (field_of x c t) ∙ ap (λ (n : ℕ). n / p) same ∙ field_of ((s / p * index + o / p) * p) c t
    ∙ ap (λ (n : ℕ). n % 2 ^ c) (shl-shr (s / p * index + o / p) t)

-- what is added to both doesn't count
pub cancel : (m a b c : ℕ) → 0 < m → (a + c) % m ≡ (b + c) % m → a % m ≡ b % m
cancel m a b c h e = sym (back a) ∙ same-sum m (a + c) (b + c) (m - c % m) (m - c % m) e refl ∙ back b
  where
    back : (n : ℕ) → (n + c + (m - c % m)) % m ≡ n % m
    back n =
        let small : c % m < m = mod_below c m h in
        let e : n + c + (m - c % m) ≡ n + m + m * (c / m) = omega (arith, mod-add-div c m) in
        ap (λ (k : ℕ). k % m) e ∙ add-mul-mod_self_left (n + m) m (c / m) ∙ add-mod_right n m

-- where the difference of two words is a multiple of a power, they are the same modulo it
pub same-difference : (i a b : ℕ) → i ≤ 64 → b ≤ 2 ^ 64 → (a + (2 ^ 64 - b)) % 2 ^ 64 % 2 ^ i ≡ 0 → a % 2 ^ i ≡ b % 2
    ^ i
same-difference i a b h k e =
    let d = a + (2 ^ 64 - b) in
    let none : d % 2 ^ i ≡ 2 ^ 64 % 2 ^ i = sym (wraps i d h) ∙ e ∙ sym (mod-eq-zero_of_dvd (2 ^ i) (pow-dvd i 64 h)) in
    let back : a + 2 ^ 64 ≡ d + b = omega arith in
    let turned : 2 ^ 64 + b ≡ b + 2 ^ 64 = omega arith in
    cancel (2 ^ i) a b (2 ^ 64) (pow_pos i)
    (ap (λ (n : ℕ). n % 2 ^ i) back ∙ same-sum (2 ^ i) d (2 ^ 64) b b none refl ∙ ap (λ (n : ℕ). n % 2 ^ i) turned)
