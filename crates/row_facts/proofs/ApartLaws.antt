-- Bytes that are apart modulo a power of two.
use Rattle.std.proofs.Common.{◌≡◌, ◌≢◌, ◌∙◌, ℕ, ◌+◌, ◌-◌, ◌*◌, ◌/◌, ◌%◌, ◌^◌, ◌<◌, ◌≤◌, Bool, true, false, refl, sym}
use Rattle.std.{proofs.{Common.{ap, arith, ⊎_elim}, lemmas.Nat.{pow_pos}}, specs.Prelude.{◌==◌, if◌then◌else◌}}
use Rattle.std.proofs.Math.Nat.{mod-eq_of_lt, mod-le, mod-mod, mod_self, mul-add, mul-le-mul_left, zero-mul}
use Rattle.std.proofs.lemmas.Nat.Gcd.{mod-eq-zero_of_dvd}
use Rattle.std.proofs.lemmas.Bool.{cases_lt, eqb-true, eqb-false}
use Rattle.value_range.proofs.Multiples.{pow-dvd}
use Rattle.row_facts.specs.{declared.lines.Line.{Line}, Facts.{IsOfMultiples, IsOnLine}}
use Rattle.row_facts.{specs.Apart.{IsAmong}, proofs.Congruence.{coarse, wraps, same-sum, same-product, cancel}}

-- a number is so many ahead of another, modulo a power, if their lines are, at two indexes
pub ahead : (b f g s o t p d index x y : ℕ) → b ≤ f → b ≤ g → b ≤ 64 → p ≤ 2 ^ 64 → s % 2 ^ b ≡ t % 2 ^ b →
    x % 2 ^ f ≡ (s * (index + d) + o) % 2 ^ f → y % 2 ^ g ≡ (t * index + p) % 2 ^ g →
    (((s * d % 2 ^ 64 + o) % 2 ^ 64 + (2 ^ 64 - p)) % 2 ^ 64 + y) % 2 ^ b ≡ x % 2 ^ b
ahead b f g s o t p d index x y h k l q e first second =
    let m = 2 ^ b in
    let top = 2 ^ 64 in
    let product : (s * d % top + o) % top % m ≡ (s * d + o) % m =
    wraps b (s * d % top + o) l ∙ same-sum m (s * d % top) (s * d) o o (wraps b (s * d) l) refl in
    let distance : ((s * d % top + o) % top + (top - p)) % top % m ≡ (s * d + o + (top - p)) % m =
    wraps b ((s * d % top + o) % top + (top - p)) l
    ∙ same-sum m ((s * d % top + o) % top) (s * d + o) (top - p) (top - p) product refl in
    let line : y % m ≡ (s * index + p) % m =
    coarse b g y (t * index + p) k second
    ∙ same-sum m (t * index) (s * index) p p (same-product m t s index index (sym e) refl) refl in
    let regroup : s * d + o + (top - p) + (s * index + p) ≡ s * (index + d) + o + top = omega (
      arith,
      mul-add s index
          d,
    ) in
    let none : (s * (index + d) + o + top) % m ≡ (s * (index + d) + o + 0) % m =
    same-sum m (s * (index + d) + o) (s * (index + d) + o) top 0 refl
    (mod-eq-zero_of_dvd m (pow-dvd b 64 l) ∙ omega (arith, pow_pos b)) in
    let plain : s * (index + d) + o + 0 ≡ s * (index + d) + o = omega arith in
    same-sum m (((s * d % top + o) % top + (top - p)) % top) (s * d + o + (top - p)) y (s * index + p) distance line
    ∙ ap (λ (n : ℕ). n % m) regroup ∙ none ∙ ap (λ (n : ℕ). n % m) plain ∙ sym (coarse b f x (s * (index + d) + o) h
    first)

-- so many that neither has one of the other's bytes
pub apart : (m a n size other x y : ℕ) → 0 < m → (a + y) % m ≡ x % m → (n + a) % m ≡ 0 → other ≤ a % m → size ≤ n % m →
    x < y + other → y < x + size → ⊥
apart m a n size other x y positive e f k h first second =
    ⊎_elim
    (λ (l : x < y).
    let t = y - x in
    let back : a + y ≡ a + t + x = omega arith in
    let bare : 0 + x ≡ x = omega arith in
    let none : (a + t) % m ≡ 0 % m = cancel m (a + t) 0 x positive
    (ap (λ (j : ℕ). j % m) (sym back) ∙ e ∙ ap (λ (j : ℕ). j % m) (sym bare)) in
    let turned : t + a ≡ a + t = omega arith in
    let zero : 0 % m ≡ 0 = omega (arith, positive) in
    let same : n % m ≡ t % m = cancel m n t a positive
    (f ∙ sym zero ∙ sym none ∙ ap (λ (j : ℕ). j % m) (sym turned)) in
    omega (arith, same, mod-le t m, second))
    (λ (l : y ≤ x).
    let t = x - y in
    let back : x ≡ t + y = omega arith in
    let same : a % m ≡ t % m = cancel m a t y positive (e ∙ ap (λ (j : ℕ). j % m) back) in
    omega (arith, same, mod-le t m, first))
    (cases_lt x y)

-- numbers on a line of multiples are multiples
pub aligned : (line : Line) (k index byte : ℕ) → IsOfMultiples line k → IsOnLine line index byte → byte % 2 ^ k ≡ 0
aligned line k index byte are on =
    let m = 2 ^ k in
    let s = line.scale in
    let o = line.offset in
    let zero : 0 % m ≡ 0 = omega (arith, pow_pos k) in
    let none : 0 * index + 0 ≡ 0 = omega (arith, zero-mul index) in
    coarse k line.bits byte (s * index + o) are.known on.same
    ∙ same-sum m (s * index) (0 * index) o 0 (same-product m s 0 index index (are.scale ∙ sym zero) refl)
    (are.offset ∙ sym zero)
    ∙ ap (λ (n : ℕ). n % m) none ∙ zero

-- at a multiple of its size the halves of an access begin among its bytes
pub among-eight : (byte half : ℕ) → byte % 8 ≡ 0 → half / 2 ≡ byte / 8 → IsAmong byte 8 half
among-eight byte half e f = record { from = omega arith; before = omega arith }

pub among-four : (byte half : ℕ) → byte % 4 ≡ 0 → half ≡ 2 * (byte / 8) + (if byte % 8 == 0 then 0 else 1) →
    IsAmong byte 4 half
among-four byte half e f = go (byte % 8 == 0) refl f
  where
    go : (b : Bool) → (byte % 8 == 0) ≡ b → half ≡ 2 * (byte / 8) + (if b then 0 else 1) → IsAmong byte 4 half
    go true h k = let whole : byte % 8 ≡ 0 = eqb-true (byte % 8) 0 h in
        record { from = omega arith; before = omega arith }
    go false h k = let part : byte % 8 ≢ 0 = eqb-false (byte % 8) 0 h in
        record { from = omega arith; before = omega arith }

-- a number that is ahead of another by more than an element, modulo a power, and by less than that without one, isn't
-- in its element
clear : (m a x y : ℕ) → 8 ≤ a → a + 8 ≤ m → (a + y) % m ≡ x % m → x / 8 ≡ y / 8 → ⊥
clear m a x y from upto e same =
    let turned : m - a + a ≡ m = omega (arith, upto) in
    let whole : a % m ≡ a = mod-eq_of_lt (omega (arith, upto)) in
    let rest : (m - a) % m ≡ m - a = mod-eq_of_lt (omega (arith, from, upto)) in
    apart m a (m - a) 8 8 x y (omega (arith, upto)) e (ap (λ (n : ℕ). n % m) turned ∙ mod_self m)
    (omega (arith, from, whole)) (omega (arith, upto, rest)) (omega (arith, same)) (omega (arith, same))

-- a number on a line is so far ahead of one on another, of the same scale, at a lesser index: by a start, and a step
-- for each index more
pub rises : (b f g s o t p from more index x y : ℕ) → b ≤ f → b ≤ g → b ≤ 64 → p ≤ 2 ^ 64 → s % 2 ^ b ≡ t % 2 ^ b →
    x % 2 ^ f ≡ (s * (index + (from + more)) + o) % 2 ^ f → y % 2 ^ g ≡ (t * index + p) % 2 ^ g →
    (((s * from % 2 ^ 64 + o) % 2 ^ 64 + (2 ^ 64 - p)) % 2 ^ 64 % 2 ^ b + s % 2 ^ b * more + y) % 2 ^ b ≡ x % 2 ^ b
rises b f g s o t p from more index x y h k l q e first second =
    let m = 2 ^ b in
    let a = ((s * from % 2 ^ 64 + o) % 2 ^ 64 + (2 ^ 64 - p)) % 2 ^ 64 in
    let at : index + (from + more) ≡ index + more + from = omega arith in
    let later : x % 2 ^ f ≡ (s * (index + more + from) + o) % 2 ^ f =
    first ∙ ap (λ (i : ℕ). (s * i + o) % 2 ^ f) at in
    let split : t * index + p + t * more ≡ t * (index + more) + p = omega (arith, mul-add t index more) in
    let moved : (y + t * more) % 2 ^ g ≡ (t * (index + more) + p) % 2 ^ g =
    same-sum (2 ^ g) y (t * index + p) (t * more) (t * more) second refl ∙ ap (λ (n : ℕ). n % 2 ^ g) split in
    let whole : (a + (y + t * more)) % m ≡ x % m =
    ahead b f g s o t p from (index + more) x (y + t * more) h k l q e later moved in
    let start : a % m % m ≡ a % m = mod-mod a m in
    let step : (s % m * more) % m ≡ (t * more) % m =
    same-product m (s % m) t more more (mod-mod s m ∙ e) refl in
    let order : a + t * more + y ≡ a + (y + t * more) = omega arith in
    same-sum m (a % m + s % m * more) (a + t * more) y y (same-sum m (a % m) a (s % m * more) (t * more) start step)
    refl
    ∙ ap (λ (n : ℕ). n % m) order ∙ whole

-- lines of one scale, of which the first stays ahead
pub stays_ahead : (b f g s o t p from count index more x y : ℕ) → b ≤ f → b ≤ g → b ≤ 64 → p ≤ 2 ^ 64 →
    s % 2 ^ b ≡ t % 2 ^ b →
    8 ≤ ((s * from % 2 ^ 64 + o) % 2 ^ 64 + (2 ^ 64 - p)) % 2 ^ 64 % 2 ^ b →
    ((s * from % 2 ^ 64 + o) % 2 ^ 64 + (2 ^ 64 - p)) % 2 ^ 64 % 2 ^ b + s % 2 ^ b * count + 8 ≤ 2 ^ b →
    more ≤ count → x % 2 ^ f ≡ (s * (index + (from + more)) + o) % 2 ^ f → y % 2 ^ g ≡ (t * index + p) % 2 ^ g →
    x / 8 ≡ y / 8 → ⊥
stays_ahead b f g s o t p from count index more x y h k l q e begins ends few first second same =
    let a = ((s * from % 2 ^ 64 + o) % 2 ^ 64 + (2 ^ 64 - p)) % 2 ^ 64 % 2 ^ b in
    let less : s % 2 ^ b * more ≤ s % 2 ^ b * count = mul-le-mul_left (s % 2 ^ b) few in
    clear (2 ^ b) (a + s % 2 ^ b * more) x y (omega (arith, begins)) (omega (arith, less, ends))
    (rises b f g s o t p from more index x y h k l q e first second) same
