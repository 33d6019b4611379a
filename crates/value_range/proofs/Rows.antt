-- Each row of an operator leaves a span, and in it what the operator computes of each pair of numbers in its operands.
use Rattle.std.proofs.Common.{◌≡◌, ◌∙◌, ℕ, ◌+◌, ◌-◌, ◌*◌, ◌/◌, ◌%◌, ◌^◌, ◌<◌, ◌≤◌, min, max, Bool, true, false, refl}
use Rattle.std.proofs.{Common.{sym, ap, subst, arith}, lemmas.Nat.{pow_pos, mod_below, shr_le}}
use Rattle.std.specs.Prelude.{◌==◌, nat_lt, nat_le, if◌then◌else◌, bit_and, bit_or, bit_xor}
use Rattle.std.proofs.Math.Nat.{mod-eq_of_lt, add-mul-mod_self_left, add-mod_left, div-le_self, mod-le, min-le_left}
use Rattle.std.proofs.Math.Nat.{min-le_right, max-le}
use Rattle.std.proofs.lemmas.Bool.{Decides.{nat_tests}, ltb-true, leb-true, lt-ltb}
use Rattle.bpf_insn_types.specs.declared.insn.{Width.{Width, TheVariants.{W32, W64}}, AluOp.{AluOp}}
use Rattle.bpf_insn_types.specs.declared.insn.AluOp.TheVariants.{Add, Sub, Mul, Div, Sdiv, Or, And, Lsh, Rsh, Mod, Smod}
use Rattle.bpf_insn_types.specs.{declared.insn.AluOp.TheVariants.{Xor, Mov, Arsh}, Words.{modulus, shift, quotient}}
use Rattle.bpf_insn_types.{specs.Words.{remainder, arithmetic_shift, computed}, proofs.WordLaws.{modulus-positive}}
use Rattle.bpf_insn_types.proofs.WordLaws.{modulus-most}
use Rattle.value_range.specs.{Spans.{Span, is_exact, exact, norm}, AluRows.{filled, added}}
use Rattle.value_range.specs.AluRows.{subtracted, multiplied, divided, left_over, with_bits, common_bits, other_bits}
use Rattle.value_range.specs.AluRows.{shifted_left_by, shifted_left, shifted_right, shifted_signed, alu_row}
use Rattle.value_range.proofs.Multiples.{coarser, min-first, min-second, multiple-zero, multiple-add, multiple-sub}
use Rattle.value_range.proofs.Multiples.{multiple-mul, multiple-wrap, pow-multiple}
use Rattle.value_range.proofs.SpanLaws.{IsSpanWith, by_test, exact-with, exact-number, top-with, norm-with}
use Rattle.value_range.proofs.RowBounds.{Between, sum-between, difference-between, product-between, quotient-between}
use Rattle.value_range.proofs.RowBounds.{or-word, or-between, xor-between, and-between, left-between, right-between}
use Rattle.value_range.proofs.RowBounds.{filled-least}

-- a multiple keeps its trailing zeros modulo the width
wrapped-multiple : (width : Width) (z n : ℕ) → n % 2 ^ z ≡ 0 → n % modulus width % 2 ^ z ≡ 0
wrapped-multiple W32 z n h = multiple-wrap z 32 n h
wrapped-multiple W64 z n h = multiple-wrap z 64 n h

-- so it is among all numbers of the width that have them
wrapped-with : (width : Width) (z n : ℕ) → z ≤ 64 → n % 2 ^ z ≡ 0
    → IsSpanWith (norm 0 (modulus width - 1) z) (n % modulus width)
wrapped-with width z n few h =
    norm-with 0 (modulus width - 1) z (n % modulus width) few (omega (arith, modulus-most width)) (record {
      above = omega arith;
      below = omega (arith, mod_below n (modulus width) (modulus-positive width));
      multiple = wrapped-multiple width z n h;
    })

-- the bounds where they are numbers of the width, and else all numbers of the width
fitted : (width : Width) (lo hi z n : ℕ) → z ≤ 64 → Between lo hi z n
    → IsSpanWith (if nat_lt hi (modulus width) then norm lo hi z else norm 0 (modulus width - 1) z) (n % modulus width)
fitted width lo hi z n few between =
    by_test (λ s. IsSpanWith s (n % modulus width)) (nat_lt hi (modulus width))
    (λ e.
    let inside : hi < modulus width = ltb-true hi (modulus width) e in
    let small : n < modulus width = omega (arith, between.below) in
    rw (mod-eq_of_lt small) (norm-with lo hi z n few (omega (arith, modulus-most width)) between))
    (λ e. wrapped-with width z n few between.multiple)

-- a difference that doesn't wrap
plain-difference : (m x y : ℕ) → x < m → y ≤ x → x - y ≡ (x + (m - y)) % m
plain-difference m x y h k =
    let e : m + (x - y) ≡ x + (m - y) = omega arith in
    let small : x - y < m = omega arith in
    sym (mod-eq_of_lt small) ∙ sym (add-mod_left m (x - y)) ∙ ap (λ (n : ℕ). n % m) e

-- and one that may, as a multiple that is made greater by a multiple of the modulus
wide-difference : (m p x y : ℕ) → 0 < p → y ≤ m → (x + (m * p - y)) % m ≡ (x + (m - y)) % m
wide-difference m p x y positive h =
    let whole : p - 1 + 1 ≡ p = omega arith in
    let grown : m * (p - 1 + 1) ≡ m * p = ap (λ (n : ℕ). m * n) whole in
    let e : x + (m * p - y) ≡ x + (m - y) + m * (p - 1) = omega (arith, grown) in
    ap (λ (n : ℕ). n % m) e ∙ add-mul-mod_self_left (x + (m - y)) m (p - 1)

pub difference-with : (width : Width) (z x y : ℕ) → z ≤ 64 → y < modulus width → x % 2 ^ z ≡ 0 → y % 2 ^ z ≡ 0
    → IsSpanWith (norm 0 (modulus width - 1) z) ((x + (modulus width - y)) % modulus width)
difference-with width z x y few h first second =
    let m = modulus width in
    let scaled : m * 2 ^ z % 2 ^ z ≡ 0 =
    coarser z (0 + z) (m * 2 ^ z) (omega arith) (multiple-mul 0 z m (2 ^ z) (multiple-zero m) (pow-multiple z)) in
    subst (λ (n : ℕ). IsSpanWith (norm 0 (m - 1) z) n) (wide-difference m (2 ^ z) x y (pow_pos z) (omega arith))
    (wrapped-with width z (x + (m * 2 ^ z - y)) few (multiple-add z x (m * 2 ^ z - y) first
    (multiple-sub z (m * 2 ^ z) y scaled second)))

module _ {a b : Span} {x y : ℕ} (p : IsSpanWith a x) (q : IsSpanWith b y) where
  lesser-few : min a.zeros b.zeros ≤ 64
  lesser-few = omega (arith, min-le_left a.zeros b.zeros, p.span.bits)

  filled-word : filled (bit_or a.hi b.hi) < 2 ^ 64
  filled-word = filled-least (bit_or a.hi b.hi) 64 (or-word a b p.span q.span) (or-word a b p.span q.span)

  -- what is not above a number of the first operand
  lesser-with : (n : ℕ) → n ≤ x → IsSpanWith (norm 0 a.hi 0) n
  lesser-with n h = norm-with 0 a.hi 0 n (omega arith) p.span.word (record {
    above = omega arith;
    below = omega (arith, p.contains.below);
    multiple = multiple-zero n;
  })

  subtracted-with : (width : Width) → x < modulus width → y < modulus width
      → IsSpanWith (subtracted width a b) ((x + (modulus width - y)) % modulus width)
  unfolding subtracted
  subtracted-with width h k =
      let z = min a.zeros b.zeros in
      let m = modulus width in
      by_test (λ s. IsSpanWith s ((x + (m - y)) % m)) (nat_le b.hi a.lo)
      (λ e.
      subst (λ (n : ℕ). IsSpanWith (norm (a.lo - b.hi) (a.hi - b.lo) z) n)
      (plain-difference m x y h (omega (arith, leb-true b.hi a.lo e, p.contains.above, q.contains.below)))
      (norm-with (a.lo - b.hi) (a.hi - b.lo) z (x - y) lesser-few (omega (arith, p.span.word))
      (difference-between p.contains q.contains)))
      (λ e.
      difference-with width z x y lesser-few k (min-first a.zeros b.zeros x p.contains.multiple)
      (min-second a.zeros b.zeros y q.contains.multiple))

  -- by a known number
  divided_by-with : (c : ℕ) (test : Bool) → (c == 0) ≡ test
      → IsSpanWith (if test then exact 0 else norm (a.lo / c) (a.hi / c) 0) (if test then 0 else x / c)
  divided_by-with c true e = exact-with 0 (omega arith)
  divided_by-with c false e =
      let some : 0 < c = grind (arith, nat_tests) in
      norm-with (a.lo / c) (a.hi / c) 0 (x / c) (omega arith) (omega (arith, div-le_self a.hi c, p.span.word))
      (quotient-between a c x some p.contains)

  divided-with : IsSpanWith (divided a b) (quotient x y)
  unfolding divided
  divided-with =
      by_test (λ s. IsSpanWith s (quotient x y)) (is_exact b)
      (λ known. rw (exact-number b y known q.contains) (divided_by-with b.lo (b.lo == 0) refl))
      (λ open_. lesser-with (quotient x y) (by_test (λ n. n ≤ x) (y == 0) (λ e. omega arith) (λ e. div-le_self x y)))

  left_over_by-with : (c : ℕ) (test : Bool) → (c == 0) ≡ test → c < 2 ^ 64
      → IsSpanWith (if test then a else if nat_lt a.hi c then a else norm 0 (c - 1) 0) (if test then x else x % c)
  left_over_by-with c true e word = p
  left_over_by-with c false e word =
      let some : 0 < c = grind (arith, nat_tests) in
      by_test (λ s. IsSpanWith s (x % c)) (nat_lt a.hi c)
      (λ l.
      let small : x < c = omega (arith, ltb-true a.hi c l, p.contains.below) in
      rw (mod-eq_of_lt small) p)
      (λ l. norm-with 0 (c - 1) 0 (x % c) (omega arith) (omega arith) (record {
        above = omega arith;
        below = omega (arith, mod_below x c some);
        multiple = multiple-zero (x % c);
      }))

  left_over-with : IsSpanWith (left_over a b) (remainder x y)
  unfolding left_over
  left_over-with =
      by_test (λ s. IsSpanWith s (remainder x y)) (is_exact b)
      (λ known.
      rw (exact-number b y known q.contains) (left_over_by-with b.lo (b.lo == 0) refl (omega (
        arith,
        q.span.ordered,
        q.span.word,
      ))))
      (λ open_. lesser-with (remainder x y) (by_test (λ n. n ≤ x) (y == 0) (λ e. omega arith) (λ e. mod-le x y)))

  shifted_left-with : (width : Width) → IsSpanWith (shifted_left width a b) ((x * 2 ^ shift width y) % modulus width)
  unfolding shifted_left shifted_left_by
  shifted_left-with width =
      by_test (λ s. IsSpanWith s ((x * 2 ^ shift width y) % modulus width)) (is_exact b)
      (λ known.
      let s = shift width b.lo in
      rw (exact-number b y known q.contains) (fitted width (a.lo * 2 ^ s) (a.hi * 2 ^ s) (min (a.zeros + s) 64)
      (x * 2 ^ s) (min-le_right (a.zeros + s) 64) (left-between a s x p.contains)))
      (λ open_.
      let s = shift width y in
      wrapped-with width a.zeros (x * 2 ^ s) p.span.bits
      (coarser a.zeros (a.zeros + s) (x * 2 ^ s) (omega arith) (multiple-mul a.zeros s x (2 ^ s) p.contains.multiple
      (pow-multiple s))))

  shifted_right-with : (width : Width) → IsSpanWith (shifted_right width a b) (x / 2 ^ shift width y)
  unfolding shifted_right
  shifted_right-with width =
      by_test (λ s. IsSpanWith s (x / 2 ^ shift width y)) (is_exact b)
      (λ known.
      let s = shift width b.lo in
      rw (exact-number b y known q.contains) (norm-with (a.lo / 2 ^ s) (a.hi / 2 ^ s) (a.zeros - s) (x / 2 ^ s)
      (omega (arith, p.span.bits)) (omega (arith, shr_le a.hi s, p.span.word)) (right-between a s x p.contains)))
      (λ open_. lesser-with (x / 2 ^ shift width y) (shr_le x (shift width y)))

  shifted_signed-with : (width : Width) → arithmetic_shift (modulus width) x (shift width y) < modulus width
      → IsSpanWith (shifted_signed width a b) (arithmetic_shift (modulus width) x (shift width y))
  unfolding shifted_signed
  shifted_signed-with width fits =
      let m = modulus width in
      by_test (λ s. IsSpanWith s (arithmetic_shift m x (shift width y))) (nat_lt a.hi (m / 2))
      (λ e.
      let small : 2 * x < m = omega (arith, ltb-true a.hi (m / 2) e, p.contains.below) in
      rw (lt-ltb (2 * x) m small) (shifted_right-with width))
      (λ e. top-with width (arithmetic_shift m x (shift width y)) fits)

  -- every operator
  pub alu_row-with : (width : Width) (op : AluOp) → x < modulus width → y < modulus width
      → computed width op x y < modulus width → IsSpanWith (alu_row op width a b) (computed width op x y)
  unfolding added multiplied with_bits common_bits other_bits
  alu_row-with width Add h k fits = fitted width (a.lo + b.lo) (a.hi + b.hi) (min a.zeros b.zeros) (x + y) lesser-few
      (sum-between p.contains q.contains)
  alu_row-with width Sub h k fits = subtracted-with width h k
  alu_row-with width Mul h k fits = fitted width (a.lo * b.lo) (a.hi * b.hi) (min (a.zeros + b.zeros) 64) (x * y)
      (min-le_right (a.zeros + b.zeros) 64) (product-between p.contains q.contains)
  alu_row-with width Div h k fits = divided-with
  alu_row-with width Mod h k fits = left_over-with
  alu_row-with width Sdiv h k fits = top-with width (computed width Sdiv x y) fits
  alu_row-with width Smod h k fits = top-with width (computed width Smod x y) fits
  alu_row-with width Or h k fits =
      norm-with (max a.lo b.lo) (filled (bit_or a.hi b.hi)) (min a.zeros b.zeros) (bit_or x y) lesser-few filled-word
      (or-between p q)
  alu_row-with width And h k fits =
      norm-with 0 (min a.hi b.hi) (max a.zeros b.zeros) (bit_and x y) (max-le p.span.bits q.span.bits)
      (omega (arith, min-le_left a.hi b.hi, p.span.word)) (and-between p q)
  alu_row-with width Xor h k fits =
      norm-with 0 (filled (bit_or a.hi b.hi)) (min a.zeros b.zeros) (bit_xor x y) lesser-few filled-word
      (xor-between p q)
  alu_row-with width Lsh h k fits = shifted_left-with width
  alu_row-with width Rsh h k fits = shifted_right-with width
  alu_row-with width Arsh h k fits = shifted_signed-with width fits
  alu_row-with width Mov h k fits = q
