-- What an operation leaves of two spans is one, and contains its meaning on each pair of their words.
use Rattle.std.proofs.Common.{◌≡◌, ◌∙◌, ℕ, ◌+◌, ◌-◌, ◌*◌, ◌/◌, ◌%◌, ◌^◌, ◌<◌, true, ◌&&◌, refl, sym, ap, subst, arith}
use Rattle.std.{specs.Prelude.{nat_lt}, proofs.Math.Nat.{mod-eq_of_lt, mod-mod}}
use Rattle.std.proofs.lemmas.{Nat.{mod_below}, Bool.{ltb-true, and_parts, lt-ltb}}
use Rattle.bpf_insn_types.specs.declared.insn.{Width.{Width, TheVariants.{W32, W64}}, AluOp.{AluOp, TheVariants.{Mov}}}
use Rattle.bpf_insn_types.specs.declared.insn.{ByteOrder.{ByteOrder, TheVariants.{Le, Be, Swap}}}
use Rattle.bpf_insn_types.specs.declared.insn.EndianBits.{EndianBits, TheVariants.{B16, B32, B64}}
use Rattle.bpf_insn_types.specs.declared.insn.MovsxBits.{MovsxBits, TheVariants.{B8, B16 as Low16, B32 as Low32}}
use Rattle.bpf_insn_types.specs.Words.{modulus, alu, negated, moved_signed, sign_extended, in_order}
use Rattle.bpf_insn_types.specs.{Words.{low_modulus, endian_modulus}, WordBounds.{ResultsFit}}
use Rattle.bpf_insn_types.proofs.WordLaws.{modulus-positive, modulus-most}
use Rattle.value_range.specs.Spans.{Span, IsSpan, Contains, is_exact, norm}
use Rattle.value_range.{proofs.Multiples.{multiple-zero, zero-multiple}, specs.declared.operation.Operation.{Operation}}
use Rattle.value_range.proofs.SpanLaws.{IsSpanWith, by_test, exact-span, exact-contains, exact-with, exact-number}
use Rattle.value_range.proofs.SpanLaws.{top-span, top-contains}
use Rattle.value_range.proofs.SpanLaws.{top-with, number-word, up_to-span}
use Rattle.value_range.specs.declared.operation.Operation.TheVariants.{Alu, Neg, Movsx, Endian}
use Rattle.value_range.specs.AluRows.{meant, low32, range_at_width, operand, negative, extended_range, top_bits, little}
use Rattle.value_range.specs.AluRows.{ordered, alu_row, row, alu_reads_exact, reads_exact, of_operands, span_of}
use Rattle.value_range.proofs.Rows.{difference-with, alu_row-with}

-- the part of a word that an operation takes
abbrev pub taken_of : Operation → Width → ℕ → ℕ
taken_of (Alu op) width x = x % modulus width
taken_of Neg width x = x % modulus width
taken_of (Movsx bits) width x = x % modulus width
taken_of (Endian order bits) width x = x

-- operands are spans, and contain it
range_at_width-keeps : (width : Width) (s : Span) (x : ℕ) → Contains s x → (IsSpan s → IsSpan (range_at_width width s))
    × (IsSpan (range_at_width width s) → Contains (range_at_width width s) (x % modulus width))
unfolding low32
range_at_width-keeps W32 s x c =
    by_test (λ r. (IsSpan s → IsSpan r) × (IsSpan r → Contains r (x % 2 ^ 32))) (nat_lt s.hi (2 ^ 32))
    (λ e.
    let small : x < 2 ^ 32 = omega (arith, ltb-true s.hi (2 ^ 32) e, c.below) in
    (λ i. i, λ i. rw (mod-eq_of_lt small) c))
    (λ e.
    by_test (λ r. (IsSpan s → IsSpan r) × (IsSpan r → Contains r (x % 2 ^ 32))) (is_exact s)
    (λ known. (
      λ i. exact-span (s.lo % 2 ^ 32) (omega arith),
      λ i. rw (exact-number s x known c) (exact-contains (s.lo % 2 ^ 32)),
    ))
    (λ open_. (λ i. top-span W32, λ i. top-contains W32 (x % 2 ^ 32) (mod_below x (2 ^ 32) (omega arith)))))
range_at_width-keeps W64 s x c =
    (λ i. i, λ i. let word : x < 2 ^ 64 = number-word s x i c in rw (mod-eq_of_lt word) c)

pub operand-keeps : (operation : Operation) (width : Width) (s : Span) (x : ℕ) → Contains s x
    → (IsSpan s → IsSpan (operand operation width s))
    × (IsSpan (operand operation width s) → Contains (operand operation width s) (taken_of operation width x))
operand-keeps (Endian order bits) width s x c = (λ i. i, λ i. c)
operand-keeps operation width s x c = range_at_width-keeps width s x c

-- what an operation takes decides its meaning
low-taken : (width : Width) (bits : MovsxBits) (b : ℕ) → b % modulus width % low_modulus bits ≡ b % low_modulus bits
low-taken W32 B8 b = omega arith
low-taken W32 Low16 b = omega arith
low-taken W32 Low32 b = omega arith
low-taken W64 B8 b = omega arith
low-taken W64 Low16 b = omega arith
low-taken W64 Low32 b = omega arith

taken-meant : (operation : Operation) (width : Width) (x y : ℕ) →
    meant operation width (taken_of operation width x) (taken_of operation width y) ≡ meant operation width x y
unfolding alu negated moved_signed
taken-meant (Alu op) width x y = rw (mod-mod x (modulus width), mod-mod y (modulus width)) refl
taken-meant Neg width x y = rw (mod-mod x (modulus width)) refl
taken-meant (Movsx bits) width x y = rw (low-taken width bits y) refl
taken-meant (Endian order bits) width x y = refl

-- of exact operands the meaning is that of their words
both-known : (f : ℕ → ℕ → ℕ) (a b : Span) (x y : ℕ) → (is_exact a && is_exact b) ≡ true → Contains a x → Contains b y
    → f a.lo b.lo ≡ f x y
both-known f a b x y known c d =
    let parts = and_parts (is_exact a) (is_exact b) known in
    rw (exact-number a x parts.0 c, exact-number b y parts.1 d) refl

known-alu : (op : AluOp) (width : Width) (a b : Span) (x y : ℕ) → alu_reads_exact op a b ≡ true → Contains a x
    → Contains b y → alu width op a.lo b.lo ≡ alu width op x y
unfolding alu
known-alu Mov width a b x y known c d = ap (λ (n : ℕ). n % modulus width) (sym (exact-number b y known d))
known-alu op width a b x y known c d = both-known (alu width op) a b x y known c d

known-meant : (operation : Operation) (width : Width) (a b : Span) (x y : ℕ) → reads_exact operation a b ≡ true
    → Contains a x → Contains b y → meant operation width a.lo b.lo ≡ meant operation width x y
known-meant (Alu op) width a b x y known c d = known-alu op width a b x y known c d
known-meant Neg width a b x y known c d = ap (negated width) (sym (exact-number a x known c))
known-meant (Movsx bits) width a b x y known c d = ap (moved_signed width bits) (sym (exact-number b y known d))
known-meant (Endian order bits) width a b x y known c d = ap (in_order order bits) (sym (exact-number a x known c))

-- meanings are words
meant-word : ResultsFit → (operation : Operation) (width : Width) (x y : ℕ) → meant operation width x y < 2 ^ 64
meant-word fit (Alu op) width x y = omega (arith, fit.alu_fits width op x y, modulus-most width)
meant-word fit Neg width x y = omega (arith, fit.negated_fits width x, modulus-most width)
meant-word fit (Movsx bits) width x y = omega (arith, fit.moved_signed_fits width bits y, modulus-most width)
meant-word fit (Endian order bits) width x y = fit.in_order_is_word order bits x

-- the rows of one operand
top_bits-span : (bits : EndianBits) → IsSpan (top_bits bits)
top_bits-span B16 = up_to-span (endian_modulus B16 - 1) (omega arith)
top_bits-span B32 = up_to-span (endian_modulus B32 - 1) (omega arith)
top_bits-span B64 = up_to-span (endian_modulus B64 - 1) (omega arith)

top_bits-with : (bits : EndianBits) (n : ℕ) → n < endian_modulus bits → IsSpanWith (top_bits bits) n
top_bits-with bits n h = record {
  span = top_bits-span bits;
  contains = record { above = omega arith; below = omega arith; multiple = multiple-zero n };
}

module _ {a : Span} {x : ℕ} (p : IsSpanWith a x) where
  negative-with : (width : Width) → x < modulus width → IsSpanWith (negative width a) (negated width x)
  unfolding negative negated
  negative-with width h =
      let m = modulus width in
      let e : 0 + (m - x) ≡ m - x % m = ap (λ (n : ℕ). 0 + (m - n)) (sym (mod-eq_of_lt h)) ∙ omega arith in
      subst (λ (n : ℕ). IsSpanWith (norm 0 (m - 1) a.zeros) (n % m)) e
      (difference-with width a.zeros 0 x p.span.bits h (zero-multiple a.zeros) p.contains.multiple)

  extended_range-with : (width : Width) (bits : MovsxBits) → moved_signed width bits x < modulus width
      → IsSpanWith (extended_range width bits a) (moved_signed width bits x)
  unfolding extended_range moved_signed
  extended_range-with width bits fits =
      let low = low_modulus bits in
      let m = modulus width in
      by_test (λ s. IsSpanWith s (sign_extended low m (x % low))) (nat_lt a.hi (low / 2))
      (λ e.
      let small : 2 * x < low = omega (arith, ltb-true a.hi (low / 2) e, p.contains.below) in
      let inside : x < low = omega arith in
      rw (mod-eq_of_lt inside, lt-ltb (2 * x) low small) p)
      (λ e. top-with width (sign_extended low m (x % low)) fits)

  ordered-with : (order : ByteOrder) (bits : EndianBits) → in_order order bits x < endian_modulus bits
      → IsSpanWith (ordered order bits a) (in_order order bits x)
  unfolding little in_order
  ordered-with Le bits fits =
      let m = endian_modulus bits in
      by_test (λ s. IsSpanWith s (x % m)) (nat_lt a.hi m)
      (λ e.
      let small : x < m = omega (arith, ltb-true a.hi m e, p.contains.below) in
      rw (mod-eq_of_lt small) p)
      (λ e. top_bits-with bits (x % m) fits)
  ordered-with Be bits fits = top_bits-with bits (in_order Be bits x) fits
  ordered-with Swap bits fits = top_bits-with bits (in_order Swap bits x) fits

module _ (fit : ResultsFit) {a b : Span} (x y : ℕ) where
  operator-with : (op : AluOp) (width : Width) → IsSpanWith a (x % modulus width) → IsSpanWith b (y % modulus width)
      → IsSpanWith (alu_row op width a b) (alu width op (x % modulus width) (y % modulus width))
  unfolding alu
  operator-with op width p q =
      let m = modulus width in
      let below = mod_below x m (modulus-positive width) in
      let below' = mod_below y m (modulus-positive width) in
      rw (mod-mod x m, mod-mod y m) (alu_row-with p q width op below below' (fit.alu_fits width op x y))

  -- every row, at what the operation takes
  row-with : (operation : Operation) (width : Width) → IsSpanWith a (taken_of operation width x)
      → IsSpanWith b (taken_of operation width y) → IsSpanWith (row operation width a b)
      (meant operation width (taken_of operation width x) (taken_of operation width y))
  row-with (Alu op) width p q = operator-with op width p q
  row-with Neg width p q = negative-with p width (mod_below x (modulus width) (modulus-positive width))
  row-with (Movsx bits) width p q =
      extended_range-with q width bits (fit.moved_signed_fits width bits (y % modulus width))
  row-with (Endian order bits) width p q = ordered-with p order bits (fit.in_order_fits order bits x)

  pub of_operands-with : (operation : Operation) (width : Width) → IsSpanWith a (taken_of operation width x)
      → IsSpanWith b (taken_of operation width y)
      → IsSpanWith (of_operands operation width a b) (meant operation width x y)
  unfolding of_operands
  of_operands-with operation width p q =
      let n = meant operation width (taken_of operation width x) (taken_of operation width y) in
      subst (λ (k : ℕ). IsSpanWith (of_operands operation width a b) k) (taken-meant operation width x y)
      (by_test (λ s. IsSpanWith s n) (reads_exact operation a b)
      (λ known. rw (known-meant operation width a b (taken_of operation width x) (taken_of operation width y) known
      p.contains q.contains) (exact-with n (meant-word fit operation width _ _)))
      (λ open_. row-with operation width p q))

-- whatever the words of both
pub span_of-contains : ResultsFit → (operation : Operation) (width : Width) (a b : Span) →
    IsSpan (operand operation width a) → IsSpan (operand operation width b) → (x y : ℕ) →
    Contains a x → Contains b y → Contains (span_of operation width a b) (meant operation width x y)
span_of-contains fit operation width a b i j x y c d =
    (of_operands-with fit x y operation width
    (record { span = i; contains = (operand-keeps operation width a x c).1 i })
    (record { span = j; contains = (operand-keeps operation width b y d).1 j })).contains
