-- What a condition leaves is two spans, which hold every pair of their words that meets it.
use Rattle.std.proofs.Common.{◌≡◌, ◌∙◌, ℕ, ◌+◌, ◌-◌, ◌%◌, ◌^◌, ◌<◌, ◌≤◌, min, max, Bool, true, false, ◌&&◌, not, refl}
use Rattle.std.{proofs.Common.{sym, arith, ⊎_elim}, specs.declared.option.Option.TheVariants.{None, Some}}
use Rattle.std.{specs.Prelude.{◌==◌, nat_lt, nat_le}, proofs.Math.Nat.{mod-eq_of_lt, le-min, max-le}}
use Rattle.std.proofs.{Math.{Nat.{min-le_left}, Pow.{pow_mono}}, lemmas.Bool.{cases_lt, ltb-true, leb-true, eqb-true}}
use Rattle.std.proofs.lemmas.Bool.{ltb-false, leb-false, eqb-false, and_parts, not-true, false≢true}
use Rattle.bpf_insn_types.specs.declared.insn.{Width.{Width, TheVariants.{W32, W64}}, Compare.{Compare}}
use Rattle.bpf_insn_types.specs.declared.insn.Compare.TheVariants.{Eq, Gt, Ge, Ne, Lt, Le}
use Rattle.bpf_insn_types.specs.Words.{modulus, compared, holds}
use Rattle.value_range.specs.Spans.{Span, IsSpan, Contains, is_exact, rounded_up, rounded_down, norm}
use Rattle.value_range.specs.{RefineLaw.{AreSpans, RefinedContains}, declared.condition.Condition.{Condition}}
use Rattle.value_range.specs.declared.condition.Condition.TheVariants.{Holds}
use Rattle.value_range.specs.RefineRows.{Refined, says, equal, without, different, greater, not_less, swapped}
use Rattle.value_range.specs.RefineRows.{tested, refine_row, refined}
use Rattle.value_range.proofs.Multiples.{multiple-add, pow-multiple, apart as step-between, up-multiple, up-most}
use Rattle.value_range.proofs.Multiples.{down-most, down-least}
use Rattle.value_range.proofs.SpanLaws.{IsSpanWith, by_test, norm-span, norm-some, norm-contains, exact-number}
use Rattle.value_range.proofs.SpanLaws.{number-word, lo-with, either-max}

-- a span that is cut below or above, where something stays
pub cut-first : (a : Span) (n : ℕ) → IsSpan a → n ≤ a.hi → rounded_up a.zeros (max a.lo n) ≤ a.hi
cut-first a n i above = norm-some (max a.lo n) a.hi a.zeros a.hi (max-le i.ordered above) (omega arith) i.hi_multiple

pub cut-second : (b : Span) (n : ℕ) → IsSpan b → b.lo ≤ n → rounded_up b.zeros b.lo ≤ min b.hi n
cut-second b n i below = norm-some b.lo (min b.hi n) b.zeros b.lo (omega arith) (le-min i.ordered below) i.lo_multiple

-- of a span of several numbers
step-word : (s : Span) → IsSpan s → (s.lo ≡ s.hi → ⊥) → s.lo + 2 ^ s.zeros ≤ s.hi
step-word s i several = step-between s.zeros s.lo s.hi i.lo_multiple i.hi_multiple (omega (arith, i.ordered, several))

pub few-zeros : (s : Span) → IsSpan s → (s.lo ≡ s.hi → ⊥) → s.zeros < 64
few-zeros s i several =
    ⊎_elim (λ (l : s.zeros < 64). l)
    (λ (l : 64 ≤ s.zeros). absurd (omega (arith, pow_mono l, step-word s i several, i.word))) (cases_lt s.zeros 64)

pub without-least : (s : Span) → IsSpan s → (s.lo ≡ s.hi → ⊥) → rounded_up s.zeros (s.lo + 2 ^ s.zeros) ≤ s.hi
without-least s i several =
    norm-some (s.lo + 2 ^ s.zeros) s.hi s.zeros (s.lo + 2 ^ s.zeros) (omega arith) (step-word s i several)
    (multiple-add s.zeros s.lo (2 ^ s.zeros) i.lo_multiple (pow-multiple s.zeros))

pub without-greatest : (s : Span) → IsSpan s → (s.lo ≡ s.hi → ⊥) → rounded_up s.zeros s.lo ≤ s.hi - 2 ^ s.zeros
without-greatest s i several =
    norm-some s.lo (s.hi - 2 ^ s.zeros) s.zeros s.lo (omega arith) (omega (arith, step-word s i several)) i.lo_multiple

-- what is left is two spans, in which a pair is if it meets a condition
pub record Keeps (met : Type 0) (x y : ℕ) (r : Refined) : Type 0 where
  pub are_spans : AreSpans r
  pub has : met → RefinedContains r x y

-- so it is for a condition that says more, and with the operands exchanged
keeps-for : {met less : Type 0} {x y : ℕ} {r : Refined} → Keeps less x y r → (met → less) → Keeps met x y r
keeps-for k f = record { are_spans = k.are_spans; has = λ m. k.has (f m) }

swapped-keeps : (met : Type 0) (x y : ℕ) (r : Refined) → Keeps met y x r → Keeps met x y (swapped r)
swapped-keeps met x y None k = record { are_spans = tt; has = k.has }
swapped-keeps met x y (Some pair) k = record {
  are_spans = (k.are_spans.1, k.are_spans.0);
  has = λ m. let h = k.has m in (h.1, h.0);
}

-- where the first is exact and not both are, the second isn't
second-open : (p q : Bool) → (p && q) ≡ false → p ≡ true → q ≡ false
second-open true q h k = h
second-open false q h k = cc

-- a span without one of its ends, and its numbers but for that one
without-keeps : (n : ℕ) (s : Span) (y : ℕ) → IsSpanWith s y → (s.lo ≡ s.hi → ⊥)
    → IsSpan (without n s) × ((y ≡ n → ⊥) → Contains (without n s) y)
unfolding without
without-keeps n s y p several =
    let z = s.zeros in
    let i = p.span in
    let c = p.contains in
    by_test (λ r. IsSpan r × ((y ≡ n → ⊥) → Contains r y)) (s.lo == n)
    (λ e. (
      norm-span (s.lo + 2 ^ z) s.hi z i.bits i.word (without-least s i several),
      λ other.
          let later : s.lo < y = omega (arith, eqb-true s.lo n e, c.above, other) in
          norm-contains (s.lo + 2 ^ z) s.hi z y (step-between z s.lo y i.lo_multiple c.multiple later) c.below
          c.multiple,
    ))
    (λ _.
    by_test (λ r. IsSpan r × ((y ≡ n → ⊥) → Contains r y)) (s.hi == n)
    (λ e. (
      norm-span s.lo (s.hi - 2 ^ z) z i.bits (omega (arith, i.word)) (without-greatest s i several),
      λ other.
          let sooner : y < s.hi = omega (arith, eqb-true s.hi n e, c.below, other) in
          norm-contains s.lo (s.hi - 2 ^ z) z y c.above
          (omega (arith, step-between z y s.hi c.multiple i.hi_multiple sooner)) c.multiple,
    ))
    (λ _. (i, λ other. c)))

module _ {a b : Span} {x y : ℕ} (p : IsSpanWith a x) (q : IsSpanWith b y) where
  -- EQ
  equal-keeps : Keeps (x ≡ y) x y (equal a b)
  unfolding equal
  equal-keeps =
      let z = max a.zeros b.zeros in
      let lo = rounded_up z (max a.lo b.lo) in
      let hi = rounded_down z (min a.hi b.hi) in
      let inside : (x ≡ y → Contains (record { lo = lo; hi = hi; zeros = z }) x) = λ same.
      let d : Contains b x = rw same q.contains in
      let multiple = either-max (λ z. x % 2 ^ z ≡ 0) a.zeros b.zeros p.contains.multiple d.multiple in
      record {
        above = up-most z (max a.lo b.lo) x multiple (max-le p.contains.above d.above);
        below = down-least z (min a.hi b.hi) x multiple (le-min p.contains.below d.below);
        multiple = multiple;
      } in
      by_test (Keeps (x ≡ y) x y) (nat_lt hi lo)
      (λ e. record {
        are_spans = tt;
        has = λ same. omega (arith, ltb-true hi lo e, (inside same).above, (inside same).below);
      })
      (λ e.
      let some : rounded_up z lo ≤ hi =
      omega (arith, up-most z lo lo (up-multiple z (max a.lo b.lo)) (omega arith), ltb-false hi lo e) in
      let word : hi < 2 ^ 64 = omega (arith, down-most z (min a.hi b.hi), min-le_left a.hi b.hi, p.span.word) in
      let span = norm-span lo hi z (max-le p.span.bits q.span.bits) word some in
      record {
        are_spans = (span, span);
        has = λ same.
            let i = inside same in
            let c = norm-contains lo hi z x i.above i.below i.multiple in
            (c, rw (← same) c);
      })

  -- both as they are
  both-keep : (met : Type 0) → Keeps met x y (Some (a, b))
  both-keep met = record { are_spans = (p.span, q.span); has = λ m. (p.contains, q.contains) }

  -- NE
  different-keeps : Keeps (x ≡ y → ⊥) x y (different a b)
  unfolding different
  different-keeps =
      by_test (Keeps (x ≡ y → ⊥) x y) (is_exact a && is_exact b)
      (λ known.
      let parts = and_parts (is_exact a) (is_exact b) known in
      by_test (Keeps (x ≡ y → ⊥) x y) (a.lo == b.lo)
      (λ same. record {
        are_spans = tt;
        has = λ other. other (exact-number a x parts.0 p.contains ∙ eqb-true a.lo b.lo same
            ∙ sym (exact-number b y parts.1 q.contains));
      })
      (λ _. both-keep (x ≡ y → ⊥)))
      (λ open_.
      by_test (Keeps (x ≡ y → ⊥) x y) (is_exact a)
      (λ first.
      let rest = without-keeps a.lo b y q (eqb-false b.lo b.hi (second-open (is_exact a) (is_exact b) open_ first)) in
      record {
        are_spans = (p.span, rest.0);
        has = λ other. (p.contains, rest.1 (λ e. other (exact-number a x first p.contains ∙ sym e)));
      })
      (λ first.
      by_test (Keeps (x ≡ y → ⊥) x y) (is_exact b)
      (λ second.
      let rest = without-keeps b.lo a x p (eqb-false a.lo a.hi first) in
      record {
        are_spans = (rest.0, q.span);
        has = λ other. (rest.1 (λ e. other (e ∙ sym (exact-number b y second q.contains))), q.contains);
      })
      (λ _. both-keep (x ≡ y → ⊥))))

  -- GT and GE: both are cut
  cut-keeps : (met : Type 0) (l h : ℕ) → l ≤ a.hi → b.lo ≤ h → (met → l ≤ x) → (met → y ≤ h)
      → Keeps met x y (Some (norm (max a.lo l) a.hi a.zeros, norm b.lo (min b.hi h) b.zeros))
  cut-keeps met l h first second above below = record {
    are_spans = (
      norm-span (max a.lo l) a.hi a.zeros p.span.bits p.span.word (cut-first a l p.span first),
      norm-span b.lo (min b.hi h) b.zeros q.span.bits (omega (arith, min-le_left b.hi h, q.span.word))
          (cut-second b h q.span second),
    );
    has = λ m. (
      norm-contains (max a.lo l) a.hi a.zeros x (max-le p.contains.above (above m)) p.contains.below
          p.contains.multiple,
      norm-contains b.lo (min b.hi h) b.zeros y q.contains.above (le-min q.contains.below (below m))
          q.contains.multiple,
    );
  }

  greater-keeps : Keeps (y < x) x y (greater a b)
  unfolding greater
  greater-keeps =
      by_test (Keeps (y < x) x y) (nat_le a.hi b.lo)
      (λ e. record {
        are_spans = tt;
        has = λ more. omega (arith, more, leb-true a.hi b.lo e, p.contains.below, q.contains.above);
      })
      (λ e.
      let some : b.lo < a.hi = leb-false a.hi b.lo e in
      cut-keeps (y < x) (b.lo + 1) (a.hi - 1) (omega arith) (omega arith)
      (λ more. omega (arith, more, q.contains.above)) (λ more. omega (arith, more, p.contains.below)))

  not_less-keeps : Keeps (y ≤ x) x y (not_less a b)
  unfolding not_less
  not_less-keeps =
      by_test (Keeps (y ≤ x) x y) (nat_lt a.hi b.lo)
      (λ e. record {
        are_spans = tt;
        has = λ more. omega (arith, more, ltb-true a.hi b.lo e, p.contains.below, q.contains.above);
      })
      (λ e.
      let some : b.lo ≤ a.hi = ltb-false a.hi b.lo e in
      cut-keeps (y ≤ x) b.lo a.hi some some (λ more. omega (arith, more, q.contains.above))
      (λ more. omega (arith, more, p.contains.below)))

  -- all others
  tested-keeps : (condition : Condition) (width : Width)
      → Keeps (says condition width x y ≡ true) x y (tested condition width a b)
  unfolding tested
  tested-keeps condition width =
      by_test (Keeps (says condition width x y ≡ true) x y)
      (is_exact a && is_exact b && not (says condition width a.lo b.lo))
      (λ e.
      let unmet = says condition width a.lo b.lo in
      let outer = and_parts (is_exact a && is_exact b) (not unmet) e in
      let inner = and_parts (is_exact a) (is_exact b) outer.0 in
      let same : says condition width x y ≡ unmet =
      rw (exact-number a x inner.0 p.contains, exact-number b y inner.1 q.contains) refl in
      record {
        are_spans = tt;
        has = λ met. false≢true (sym (not-true unmet outer.1) ∙ sym same ∙ met);
      })
      (λ _. both-keep (says condition width x y ≡ true))

-- numbers of the width are compared as they are
plain : (width : Width) (compare : Compare) (x y : ℕ) → x < modulus width → y < modulus width → holds width compare x y
    ≡ true → compared width compare x y ≡ true
unfolding holds
plain width compare x y h k met = rw (mod-eq_of_lt h, mod-eq_of_lt k) at met

-- every row
row-keeps : {a b : Span} {x y : ℕ} (p : IsSpanWith a x) (q : IsSpanWith b y) (condition : Condition) (width : Width)
    → x < modulus width → y < modulus width
    → Keeps (says condition width x y ≡ true) x y (refine_row condition width a b)
row-keeps p q (Holds Eq) width h k = keeps-for (equal-keeps p q) (λ met. eqb-true _ _ (plain width Eq _ _ h k met))
row-keeps p q (Holds Ne) width h k =
    keeps-for (different-keeps p q) (λ met. eqb-false _ _ (not-true _ (plain width Ne _ _ h k met)))
row-keeps p q (Holds Gt) width h k = keeps-for (greater-keeps p q) (λ met. ltb-true _ _ (plain width Gt _ _ h k met))
row-keeps p q (Holds Ge) width h k = keeps-for (not_less-keeps p q) (λ met. leb-true _ _ (plain width Ge _ _ h k met))
row-keeps p q (Holds Lt) width h k =
    swapped-keeps _ _ _ _ (keeps-for (greater-keeps q p) (λ met. ltb-true _ _ (plain width Lt _ _ h k met)))
row-keeps p q (Holds Le) width h k =
    swapped-keeps _ _ _ _ (keeps-for (not_less-keeps q p) (λ met. leb-true _ _ (plain width Le _ _ h k met)))
row-keeps p q condition width h k = tested-keeps p q condition width

-- at both widths
pub refined-keeps : {a b : Span} {x y : ℕ} (p : IsSpanWith a x) (q : IsSpanWith b y) (condition : Condition)
    (width : Width) → Keeps (says condition width x y ≡ true) x y (refined condition width a b)
unfolding refined
refined-keeps {a} {b} {x} {y} p q condition W64 =
    row-keeps p q condition W64 (number-word a x p.span p.contains) (number-word b y q.span q.contains)
refined-keeps {a} {b} {x} {y} p q condition W32 =
    by_test (Keeps (says condition W32 x y ≡ true) x y) (nat_lt a.hi (2 ^ 32) && nat_lt b.hi (2 ^ 32))
    (λ e.
    let small = and_parts (nat_lt a.hi (2 ^ 32)) (nat_lt b.hi (2 ^ 32)) e in
    row-keeps p q condition W32 (omega (arith, ltb-true a.hi (2 ^ 32) small.0, p.contains.below))
    (omega (arith, ltb-true b.hi (2 ^ 32) small.1, q.contains.below)))
    (λ _. tested-keeps p q condition W32)

pub refined-spans : (condition : Condition) (width : Width) (a b : Span) → IsSpan a → IsSpan b
    → AreSpans (refined condition width a b)
refined-spans condition width a b i j =
    (refined-keeps (lo-with a i) (lo-with b j) condition width).are_spans
