-- What operators give is what is known of it. What a comparison says is the abstract state on the edge that it takes.
use Rattle.bpf_insn_types.specs.{Values.{OperandFits}, WordBounds.{ResultsFit}}
use Rattle.bpf_insn_types.specs.{Words.{alu, word_of, holds, modulus, compared}, declared.insn.AluOp.{AluOp}}
use Rattle.bpf_insn_types.specs.declared.insn.{AluOp.TheVariants.{Add, Sub, Mov}, Compare.{Compare}}
use Rattle.bpf_insn_types.specs.declared.insn.{Compare.TheVariants.{Eq, Ne}, Operand.{Operand, TheVariants.{Imm, Reg}}}
use Rattle.bpf_insn_types.specs.declared.insn.Width.{Width, TheVariants.{W32, W64}}
use Rattle.bpf_step_model.specs.State.{Value, Unwritten, Word, Frame, Ctx, Area, Machine, register}
use Rattle.bpf_step_model.specs.Values.{on_word, on_words, copied, within_frame, area_address, shifted, result_of}
use Rattle.bpf_step_model.specs.Values.{operand_value, on_two_words, comparison_of}
use Rattle.bpf_verify_model.specs.Flow.{compared_imm, refines, unrefined_branch, number_branch, register_branch}
use Rattle.bpf_verify_model.specs.Flow.{operand_branch, null_check_branch, branch_states}
use Rattle.bpf_verify_model.specs.States.{known_register, with_known}
use Rattle.bpf_verify_model.specs.Values.{known_of_number, known_of_numbers, known_copy, known_position, known_area}
use Rattle.bpf_verify_model.specs.Values.{known_moved, known_sum, known_result, known_operand, is_number_value}
use Rattle.bpf_verify_model.specs.Values.{is_null_check, compares}
use Rattle.bpf_verify_model.specs.declared.abstract_value.AbstractValue.{AbstractValue}
use Rattle.bpf_verify_model.specs.declared.{outflow.BranchStates.{BranchStates}, state.State.{State}}
use Rattle.bpf_verify_sound.proofs.Operands.{register-known, register-span, word-fits, learnt}
use Rattle.bpf_verify_sound.proofs.Tests.{and-one, and-two, if-either}
use Rattle.bpf_verify_sound.specs.Containment.{ContainsValue, Contained, ContainedIf}
use Rattle.bpf_verify_sound.specs.{KnownStates.{HasSpan, IsWellFormedState}, Ways.{FollowsValue}}
use Rattle.std.proofs.Common.{◌≡◌, ℕ, ◌+◌, ◌≤◌, Bool, true, false, ◌&&◌, Option, Some, None, refl, subst, arith, zero}
use Rattle.std.proofs.{Common.{◌<◌, ◌%◌, ◌^◌, not, ap, ◌∙◌}, lemmas.{Bool.Decides.{nat_tests}, Int.{ints}}}
use Rattle.std.specs.{Int.{w32}, Option.{option_map}, Prelude.{nat_le, ◌==◌, ℤ, pos, FitsSigned}}
use Rattle.value_range.proofs.{AluContains.{span_of-contains}, ConditionLaws.{opposite_says}}
use Rattle.value_range.proofs.{RefineContains.{refined-has}, RowSpans.{operand-span}}
use Rattle.value_range.{proofs.SpanLaws.{exact-number, exact-span, exact-contains}, specs.AluRows.{meant, span_of}}
use Rattle.value_range.specs.{RefineLaw.{RefinedContains}, RefineRows.{Refined, refined, opposite}}
use Rattle.value_range.specs.{Spans.{Span, IsSpan, Contains, exact}, declared.condition.Condition.TheVariants.{Holds}}
use Rattle.value_range.specs.declared.operation.Operation.{Operation, TheVariants.{Alu as AluOperation}}
use Rattle.bpf_verify_model.specs.declared.abstract_value.AbstractValue.TheVariants as known

-- the meaning of an operation on words of two ranges
pub span-has : ResultsFit → (operation : Operation) (width : Width) (a b : Span) → IsSpan a → IsSpan b → (n k : ℕ)
    → Contains a n → Contains b k →
    Contains (span_of operation width a b) (meant operation width n k)
span-has fit operation width a b i j n k c d =
    span_of-contains fit operation width a b (operand-span operation width a i) (operand-span operation width b j) n k c
    d

-- on one number
pub number-follows : ResultsFit → (operation : Operation) (width : Width) (f : ℕ → ℕ)
    → ((n : ℕ) → meant operation width n n ≡ f n) →
    (x : AbstractValue) (v : Value) → HasSpan x → ContainsValue x v → FollowsValue (known_of_number operation width x)
    (on_word f v)
number-follows fit operation width f is (known.Number a) (Word n) i c =
    subst (λ (k : ℕ). Contains (span_of operation width a a) k) (is n) (span-has fit operation width a a i i n n c c)
number-follows fit operation width f is (known.Number a) v i c = absurd c
number-follows fit operation width f is x v i c = tt

-- on two
numbers-follow : ResultsFit → (width : Width) (op : AluOp) (x y : AbstractValue) (v w : Value) → HasSpan x → HasSpan y
    → ContainsValue x v → ContainsValue y w →
    FollowsValue (known_of_numbers width op x y) (on_words width op v w)
numbers-follow fit width op (known.Number a) (known.Number b) (Word n) (Word k) i j c d =
    span-has fit (AluOperation op) width a b i j n k c d
numbers-follow fit width op (known.Number a) (known.Number b) (Word n) w i j c d = absurd d
numbers-follow fit width op (known.Number a) (known.Number b) v w i j c d = absurd c
numbers-follow fit width op x y v w i j c d = tt

-- a copy
copied-follows : (x : AbstractValue) (v : Value) → ContainsValue x v → FollowsValue (known_copy W64 x) (copied W64 v)
copied-follows known.Unwritten v c = tt
copied-follows x Unwritten c = absurd c
copied-follows x v c = c

-- a position moved by a number that is known
position-follows : (x : ℕ → AbstractValue) (address : ℕ → Value) → ((q : ℕ) → ContainsValue (x q) (address q))
    → (op : AluOp) (p : ℕ) (n : Span) (k : ℕ) → Contains n k →
    FollowsValue (option_map x (known_position op p n)) (within_frame address (alu W64 op p k))
position-follows x address same op p n k c =
    if-either (λ (o : Option ℕ). FollowsValue (option_map x o) (within_frame address (alu W64 op p k)))
    ((n.lo == n.hi) && nat_le (alu W64 op p n.lo) 512) (λ e.
    let one : k ≡ n.lo = exact-number n k (and-one (n.lo == n.hi) (nat_le (alu W64 op p n.lo) 512) e) c in
    let small : nat_le (alu W64 op p n.lo) 512 ≡ true = and-two (n.lo == n.hi) _ e in
    rw (one, small) (same (alu W64 op p n.lo))) (λ e. tt)

-- an offset moved up
area-follows : ResultsFit → (m : ℕ) (a b : Span) → IsSpan a → IsSpan b → (n k : ℕ) → Contains a n → Contains b k →
    FollowsValue (known_area m a b) (area_address m (n + k))
unfolding alu
area-follows fit m a b i j n k c d =
    if-either (λ (o : Option AbstractValue). FollowsValue o (area_address m (n + k))) (nat_le (a.hi + b.hi) 524288)
    (λ e.
    let most : a.hi + b.hi ≤ 524288 = grind (arith, nat_tests) in
    let small : n + k ≤ 524288 = omega (arith, c.below, d.below) in
    let test : nat_le (n + k) 524288 ≡ true = grind (arith, nat_tests) in
    let same : meant (AluOperation Add) W64 n k ≡ n + k = omega arith in
    rw test (refl, rw same at (span-has fit (AluOperation Add) W64 a b i j n k c d))) (λ e. tt)

-- a value moved by a number
moved-follows : ResultsFit → (op : AluOp) (x : AbstractValue) (n : Span) (v : Value) (k : ℕ) → HasSpan x → IsSpan n
    → ContainsValue x v → Contains n k →
    FollowsValue (known_moved op x n) (shifted W64 op v (Word k))
moved-follows fit op (known.Number a) n (Word j) k i s c d = span-has fit (AluOperation op) W64 a n i s j k c d
moved-follows fit op (known.Number a) n v k i s c d = absurd c
moved-follows fit op (known.Frame p) n (Frame q) k i s c d =
    subst (λ (r : ℕ). FollowsValue (known_moved op (known.Frame p) n) (within_frame Frame (alu W64 op r k))) c
    (position-follows known.Frame Frame (λ q. refl) op p n k d)
moved-follows fit op (known.Frame p) n v k i s c d = absurd c
moved-follows fit op (known.Ctx p) n (Ctx q) k i s c d =
    subst (λ (r : ℕ). FollowsValue (known_moved op (known.Ctx p) n) (within_frame Ctx (alu W64 op r k))) c
    (position-follows known.Ctx Ctx (λ q. refl) op p n k d)
moved-follows fit op (known.Ctx p) n v k i s c d = absurd c
moved-follows fit Add (known.Area m a) n (Area m' o) k i s c d =
    subst (λ (r : ℕ). FollowsValue (known_area m a n) (area_address r (o + k))) c.0 (area-follows fit m a n i s o k c.1
    d)
moved-follows fit Add (known.Area m a) n v k i s c d = absurd c
moved-follows fit op x n v k i s c d = tt

-- a sum or a difference
sum-follows : ResultsFit → (op : AluOp) (x y : AbstractValue) (v w : Value) → HasSpan x → HasSpan y → ContainsValue x v
    → ContainsValue y w →
    FollowsValue (known_sum W64 op x y) (shifted W64 op v w)
sum-follows fit op x (known.Number n) v (Word k) i j c d = moved-follows fit op x n v k i j c d
sum-follows fit op x (known.Number n) v w i j c d = absurd d
sum-follows fit op x y v w i j c d = tt

-- an operator
pub result-follows : ResultsFit → (width : Width) (op : AluOp) (x y : AbstractValue) (v w : Value) → HasSpan x
    → HasSpan y → ContainsValue x v → ContainsValue y w →
    FollowsValue (known_result width op x y) (result_of width op v w)
unfolding alu
result-follows fit W64 Mov x y v w i j c d = copied-follows y w d
result-follows fit W32 Mov x y v w i j c d = number-follows fit (AluOperation Mov) W32 (alu W32 Mov 0) (λ n. refl) y w
    j d
result-follows fit W64 Add x y v w i j c d = sum-follows fit Add x y v w i j c d
result-follows fit W64 Sub x y v w i j c d = sum-follows fit Sub x y v w i j c d
result-follows fit width op x y v w i j c d = numbers-follow fit width op x y v w i j c d

-- the comparison says something, and the abstract state on that edge is true
abbrev pub WayFollows : BranchStates → Option Bool → Machine → Type 0
WayFollows ways None m = ⊥
WayFollows ways (Some true) m = ContainedIf ways.holds m
WayFollows ways (Some false) m = ContainedIf ways.fails m

-- the operand is a number
abbrev pub IsWord : Machine → Operand → ℕ → Type 0
IsWord m (Imm imm) k = Unit {0}
IsWord m (Reg r) k = register m r ≡ Word k

-- an immediate at 32 bits is its 32 bits
imm-same : (width : Width) (imm : ℤ) → FitsSigned w32 imm → word_of imm % modulus width ≡ compared_imm width imm %
    modulus width
imm-same W64 imm fits = refl
imm-same W32 imm fits = omega (arith, ints)

holds-imm : (width : Width) (compare : Compare) (n : ℕ) (imm : ℤ) → FitsSigned w32 imm
    → holds width compare n (word_of imm) ≡ holds width compare n (compared_imm width imm)
unfolding holds
holds-imm width compare n imm fits = ap (compared width compare (n % modulus width)) (imm-same width imm fits)

pub imm-word : (width : Width) (imm : ℤ) → FitsSigned w32 imm → compared_imm width imm < 2 ^ 64
imm-word W64 imm fits = word-fits imm fits
imm-word W32 imm fits = omega (arith, ints)

module _ {state : State} {m : Machine} (c : Contained state m) where
  -- both edges are followed with nothing more known
  both-follow : (b : Bool) → WayFollows (unrefined_branch state) (Some b) m
  both-follow true = c
  both-follow false = c

  null-learnt : (dst : ℕ) → register m dst ≡ Word 0 → Contained (with_known state dst (known.Number (exact 0))) m
  null-learnt dst e = learnt state m dst (known.Number (exact 0)) c (rw e (exact-contains 0))

  -- the null check
  null-follows : (width : Width) (compare : Compare) (dst map : ℕ) (operand : Operand) (range : Span) (v : Value)
      → register m dst ≡ v → ContainsValue (known.AreaOrNull map range) v → is_null_check width compare operand ≡ true
      → WayFollows (null_check_branch state compare dst map range) (comparison_of m width compare v operand) m
  unfolding holds
  null-follows W64 Eq dst map (Imm (pos zero)) range (Word n) e x some = rw x (null-learnt dst (rw x at e))
  null-follows W64 Ne dst map (Imm (pos zero)) range (Word n) e x some = rw x (null-learnt dst (rw x at e))
  null-follows W64 Eq dst map (Imm (pos zero)) range (Area n o) e x some =
      learnt state m dst (known.Area map range) c (rw e x)
  null-follows W64 Ne dst map (Imm (pos zero)) range (Area n o) e x some =
      learnt state m dst (known.Area map range) c (rw e x)
  null-follows W64 Eq dst map (Imm (pos zero)) range v e x some = absurd x
  null-follows W64 Ne dst map (Imm (pos zero)) range v e x some = absurd x
  null-follows width compare dst map operand range v e x some = absurd cc

  -- a number and an operand of which more is known
  module _ (width : Width) (compare : Compare) (dst n : ℕ) (e : register m dst ≡ Word n) where
    refines-follow : (operand : Operand) (r : Refined) (k : ℕ) → IsWord m operand k → RefinedContains r n k
        → ContainedIf (refines state dst operand r) m
    refines-follow operand None k f has = absurd has
    refines-follow (Imm imm) (Some pair) k f has = learnt state m dst (known.Number pair.0) c (rw e has.0)
    refines-follow (Reg r) (Some pair) k f has =
        learnt (with_known state dst (known.Number pair.0)) m r (known.Number pair.1)
        (learnt state m dst (known.Number pair.0) c (rw e has.0)) (rw f has.1)

    module _ (a : Span) (i : IsSpan a) (x : Contains a n) where
      -- of two numbers
      numbers-compared : (operand : Operand) (b : Span) (k : ℕ) → IsSpan b → IsWord m operand k → Contains b k
          → (test : Bool) → holds width compare n k ≡ test
          → WayFollows (number_branch state width compare dst operand a b) (Some test) m
      numbers-compared operand b k j f y true h = refines-follow operand (refined (Holds compare) width a b) k f
          (refined-has (Holds compare) width a b i j n k x y h)
      numbers-compared operand b k j f y false h = refines-follow operand (refined (opposite compare) width a b) k f
          (refined-has (opposite compare) width a b i j n k x y (opposite_says compare width n k ∙ ap not h))

      imm-follows : (imm : ℤ) → FitsSigned w32 imm
          → WayFollows (number_branch state width compare dst (Imm imm) a (exact (compared_imm width imm)))
          (Some (holds width compare n (word_of imm))) m
      imm-follows imm fits =
          rw (holds-imm width compare n imm fits) (numbers-compared (Imm imm) (exact (compared_imm width imm))
          (compared_imm width imm) (exact-span (compared_imm width imm) (imm-word width imm fits)) tt
          (exact-contains (compared_imm width imm)) _ refl)

      -- of two registers
      registers-follow : (r : ℕ) (y : AbstractValue) (w : Value) → HasSpan y → register m r ≡ w → ContainsValue y w
          → is_number_value y ≡ true
          → WayFollows (register_branch state width compare dst r a y) (on_two_words width compare n w) m
      registers-follow r (known.Number b) (Word k) j f y some =
          if-either (λ (ways : BranchStates). WayFollows ways (Some (holds width compare n k)) m) (dst == r)
          (λ e'. both-follow (holds width compare n k)) (λ e'. numbers-compared (Reg r) b k j f y _ refl)
      registers-follow r (known.Number b) w j f y some = absurd y
      registers-follow r y w j f z some = absurd cc

      operands-follow : (operand : Operand) → IsWellFormedState state → OperandFits operand
          → is_number_value (known_operand state operand) ≡ true
          → WayFollows (operand_branch state width compare dst operand a)
          (on_two_words width compare n (operand_value m operand)) m
      operands-follow (Imm imm) spans fits some = imm-follows imm fits
      operands-follow (Reg r) spans fits some = registers-follow r (known_register state r) (register m r)
          (register-span state r spans) refl (register-known state m r c) some

  -- a comparison that breaks no rule
  pub compare-follows : (width : Width) (compare : Compare) (dst : ℕ) (operand : Operand) (x : AbstractValue)
      (v : Value)
      → IsWellFormedState state → HasSpan x → OperandFits operand → register m dst ≡ v → ContainsValue x v
      → compares state width compare operand x ≡ true →
      WayFollows (branch_states state width compare dst operand x) (comparison_of m width compare v operand) m
  compare-follows width compare dst operand (known.Number a) (Word n) spans i fits e x some =
      operands-follow width compare dst n e a i x operand spans fits some
  compare-follows width compare dst operand (known.Number a) v spans i fits e x some = absurd x
  compare-follows width compare dst operand (known.AreaOrNull map range) v spans i fits e x some =
      null-follows width compare dst map operand range v e x some
  compare-follows width compare dst operand x v spans i fits e y some = absurd cc
