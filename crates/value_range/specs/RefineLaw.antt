-- The law of conditions on spans.
use Rattle.std.specs.{Prelude.{◌≡◌, ℕ, true}, declared.option.Option.TheVariants.{None, Some}}
use Rattle.bpf_insn_types.specs.declared.insn.Width.{Width}
use Rattle.value_range.specs.{Spans.{Span, IsSpan, Contains}, declared.condition.Condition.{Condition}}
use Rattle.value_range.specs.RefineRows.{Refined, says, refined}

-- what is left is two spans, where anything is
abbrev pub AreSpans : Refined → Type 0
AreSpans None = Unit {0}
AreSpans (Some pair) = IsSpan pair.0 × IsSpan pair.1

-- a pair of words is in what is left
abbrev pub RefinedContains : Refined → ℕ → ℕ → Type 0
RefinedContains None x y = ⊥
RefinedContains (Some pair) x y = Contains pair.0 x × Contains pair.1 y

-- a condition leaves spans, and in them each pair of words that meets it
pub record RefineLaw : Type 0 where
  pub are_spans : (condition : Condition) (width : Width) (a b : Span) → IsSpan a → IsSpan b
      → AreSpans (refined condition width a b)
  pub keeps : (condition : Condition) (width : Width) (a b : Span) → IsSpan a → IsSpan b →
      (x y : ℕ) → Contains a x → Contains b y → says condition width x y ≡ true
      → RefinedContains (refined condition width a b) x y
