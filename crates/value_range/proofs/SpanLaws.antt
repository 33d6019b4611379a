-- What spans contain, and that they are spans.
use Rattle.std.proofs.Common.{◌≡◌, ◌∙◌, ℕ, ◌-◌, ◌%◌, ◌^◌, ◌<◌, ◌≤◌, min, max, Bool, true, false, refl, sym}
use Rattle.std.{proofs.Common.{arith, ⊎_elim}, specs.Prelude.{◌==◌, if◌then◌else◌}}
use Rattle.std.proofs.lemmas.Bool.{eqb-true, eq-eqb, ne_eqb, cases_lt}
use Rattle.std.proofs.Math.Nat.{min-le_left, min-le_right, le-max_left, le-max_right, min-eq_left, min-eq_right}
use Rattle.std.proofs.Math.Nat.{max-eq_left, max-eq_right}
use Rattle.bpf_insn_types.specs.{declared.insn.Width.{Width, TheVariants.{W32, W64}}, Words.{modulus}}
use Rattle.value_range.specs.Spans.{Span, IsSpan, Contains, is_exact, exact, top, rounded_up, rounded_down, norm, join}
use Rattle.value_range.proofs.Multiples.{min-first, min-second, multiple-zero, trailing-multiple, trailing-most}
use Rattle.value_range.proofs.Multiples.{down-most, down-multiple, down-least, up-least, up-multiple, up-most}

-- what holds of both of two holds of the one that a test takes
pub by_test : {A : Type 0} (P : A → Type 0) (test : Bool) {s t : A} → (test ≡ true → P s) → (test ≡ false → P t)
    → P (if test then s else t)
by_test P true h k = h refl
by_test P false h k = k refl

-- a span, and a number of its
pub record IsSpanWith (s : Span) (number : ℕ) : Type 0 where
  pub span : IsSpan s
  pub contains : Contains s number

-- one word
pub exact-span : (n : ℕ) → n < 2 ^ 64 → IsSpan (exact n)
exact-span n h = record {
  ordered = omega arith;
  word = h;
  bits = trailing-most n;
  lo_multiple = trailing-multiple n;
  hi_multiple = trailing-multiple n;
}

pub exact-contains : (n : ℕ) → Contains (exact n) n
exact-contains n = record { above = omega arith; below = omega arith; multiple = trailing-multiple n }

pub exact-with : (n : ℕ) → n < 2 ^ 64 → IsSpanWith (exact n) n
exact-with n h = record { span = exact-span n h; contains = exact-contains n }

-- the least number of a span is among its numbers
pub lo-in : (s : Span) → IsSpan s → Contains s s.lo
lo-in s i = record { above = omega arith; below = i.ordered; multiple = i.lo_multiple }

pub lo-with : (s : Span) → IsSpan s → IsSpanWith s s.lo
lo-with s i = record { span = i; contains = lo-in s i }

-- they are words
pub number-word : (s : Span) (x : ℕ) → IsSpan s → Contains s x → x < 2 ^ 64
number-word s x i c = omega (arith, i.word, c.below)

-- an exact span has its one number alone
pub exact-number : (s : Span) (x : ℕ) → is_exact s ≡ true → Contains s x → x ≡ s.lo
exact-number s x e c = omega (arith, eqb-true s.lo s.hi e, c.above, c.below)

-- every number of the width
pub top-contains : (width : Width) (x : ℕ) → x < modulus width → Contains (top width) x
top-contains width x h = record { above = omega arith; below = omega arith; multiple = multiple-zero x }

-- every number up to a word
pub up_to-span : (hi : ℕ) → hi < 2 ^ 64 → IsSpan (record { lo = 0; hi = hi; zeros = 0 })
up_to-span hi word = record {
  ordered = omega arith;
  word = word;
  bits = omega arith;
  lo_multiple = refl;
  hi_multiple = multiple-zero hi;
}

pub top-span : (width : Width) → IsSpan (top width)
top-span W32 = up_to-span (modulus W32 - 1) (omega arith)
top-span W64 = up_to-span (modulus W64 - 1) (omega arith)

pub top-with : (width : Width) (x : ℕ) → x < modulus width → IsSpanWith (top width) x
top-with width x h = record { span = top-span width; contains = top-contains width x h }

-- what is between the bounds stays between the rounded bounds
pub norm-contains : (lo hi z x : ℕ) → lo ≤ x → x ≤ hi → x % 2 ^ z ≡ 0 → Contains (norm lo hi z) x
unfolding norm
norm-contains lo hi z x above below multiple =
    let up = up-most z lo x multiple above in
    let down = down-least z hi x multiple below in
    by_test (λ s. Contains s x) (rounded_up z lo == rounded_down z hi)
    (λ e.
    let same : rounded_up z lo ≡ x = omega (arith, eqb-true (rounded_up z lo) (rounded_down z hi) e, up, down) in
    rw same (exact-contains x))
    (λ e. record { above = up; below = down; multiple = multiple })

-- rounded bounds, as computed
pub rounded-span : (lo hi z least greatest : ℕ) → z ≤ 64 → hi < 2 ^ 64 → rounded_up z lo ≤ hi → least ≡ rounded_up z lo
    →
    greatest ≡ rounded_down z hi → IsSpan (record { lo = least; hi = greatest; zeros = z })
rounded-span lo hi z least greatest bits word some is_least is_greatest =
    rw (is_least, is_greatest) (record {
      ordered = down-least z hi (rounded_up z lo) (up-multiple z lo) some;
      word = omega (arith, down-most z hi);
      bits = bits;
      lo_multiple = up-multiple z lo;
      hi_multiple = down-multiple z hi;
    })

-- where a multiple lies between the bounds, what they are rounded to is a span
pub norm-span : (lo hi z : ℕ) → z ≤ 64 → hi < 2 ^ 64 → rounded_up z lo ≤ hi → IsSpan (norm lo hi z)
unfolding norm
norm-span lo hi z bits word some =
    by_test IsSpan (rounded_up z lo == rounded_down z hi) (λ e. exact-span (rounded_up z lo) (omega arith))
    (λ e. rounded-span lo hi z (rounded_up z lo) (rounded_down z hi) bits word some refl refl)

-- the numbers of both
pub join-first : (a b : Span) (x : ℕ) → Contains a x → Contains (join a b) x
join-first a b x c = record {
  above = omega (arith, min-le_left a.lo b.lo, c.above);
  below = omega (arith, le-max_left a.hi b.hi, c.below);
  multiple = min-first a.zeros b.zeros x c.multiple;
}

pub join-second : (a b : Span) (x : ℕ) → Contains b x → Contains (join a b) x
join-second a b x c = record {
  above = omega (arith, min-le_right a.lo b.lo, c.above);
  below = omega (arith, le-max_right a.hi b.hi, c.below);
  multiple = min-second a.zeros b.zeros x c.multiple;
}

-- what holds of two numbers holds of the lesser and of the greater
pub either-min : (P : ℕ → Type 0) (a b : ℕ) → P a → P b → P (min a b)
either-min P a b h k =
    ⊎_elim (λ (l : a < b). let e : min a b ≡ a = min-eq_left (omega arith) in rw e h)
    (λ (l : b ≤ a). rw (min-eq_right l) k) (cases_lt a b)

pub either-max : (P : ℕ → Type 0) (a b : ℕ) → P a → P b → P (max a b)
either-max P a b h k =
    ⊎_elim (λ (l : a < b). let e : max a b ≡ b = max-eq_right (omega arith) in rw e k)
    (λ (l : b ≤ a). rw (max-eq_left l) h) (cases_lt a b)

pub join-span : (a b : Span) → IsSpan a → IsSpan b → IsSpan (join a b)
join-span a b i j = record {
  ordered = omega (arith, min-le_left a.lo b.lo, le-max_left a.hi b.hi, i.ordered);
  word = either-max (λ n. n < 2 ^ 64) a.hi b.hi i.word j.word;
  bits = omega (arith, min-le_left a.zeros b.zeros, i.bits);
  lo_multiple = either-min (λ n. n % 2 ^ min a.zeros b.zeros ≡ 0) a.lo b.lo
      (min-first a.zeros b.zeros a.lo i.lo_multiple) (min-second a.zeros b.zeros b.lo j.lo_multiple);
  hi_multiple = either-max (λ n. n % 2 ^ min a.zeros b.zeros ≡ 0) a.hi b.hi
      (min-first a.zeros b.zeros a.hi i.hi_multiple) (min-second a.zeros b.zeros b.hi j.hi_multiple);
}

-- what is computed, where the rounded bounds are equal and where they aren't
pub norm-one : (lo hi z least greatest : ℕ) (r : Span) → least ≡ rounded_up z lo → greatest ≡ rounded_down z hi →
    least ≡ greatest → r ≡ exact least → r ≡ norm lo hi z
unfolding norm
norm-one lo hi z least greatest r is_least is_greatest same is_r =
    rw (is_r, is_least, eq-eqb (rounded_up z lo) (rounded_down z hi) (sym is_least ∙ same ∙ is_greatest)) refl

pub norm-more : (lo hi z least greatest : ℕ) → least ≡ rounded_up z lo → greatest ≡ rounded_down z hi →
    (least ≡ greatest → ⊥) → record { lo = least; hi = greatest; zeros = z } ≡ norm lo hi z
unfolding norm
norm-more lo hi z least greatest is_least is_greatest other =
    let differ : rounded_up z lo ≡ rounded_down z hi → ⊥ = λ e. other (is_least ∙ e ∙ sym is_greatest) in
    rw (is_least, is_greatest, ne_eqb (rounded_up z lo) (rounded_down z hi) differ) refl

-- a multiple between the bounds is what makes a span of them
pub norm-some : (lo hi z x : ℕ) → lo ≤ x → x ≤ hi → x % 2 ^ z ≡ 0 → rounded_up z lo ≤ hi
norm-some lo hi z x above below multiple = omega (arith, up-most z lo x multiple above, below)

pub norm-with : (lo hi z x : ℕ) → z ≤ 64 → hi < 2 ^ 64 → Contains (record { lo = lo; hi = hi; zeros = z }) x
    → IsSpanWith (norm lo hi z) x
norm-with lo hi z x bits word c = record {
  span = norm-span lo hi z bits word (norm-some lo hi z x c.above c.below c.multiple);
  contains = norm-contains lo hi z x c.above c.below c.multiple;
}

-- bounds that are rounded already stay
pub norm-rounded : (lo hi z : ℕ) → norm lo hi z ≡ norm (rounded_up z lo) hi z
unfolding norm
norm-rounded lo hi z =
    let least = rounded_up z lo in
    let same : rounded_up z least ≡ least =
    omega (arith, up-least z least, up-most z least least (up-multiple z lo) (omega arith)) in
    rw same refl
