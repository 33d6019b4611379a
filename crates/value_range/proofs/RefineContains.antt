-- What is left of two spans holds every pair of their words that meets the condition.
use Rattle.std.proofs.Common.{◌≡◌, ℕ, true, false}
use Rattle.std.{proofs.lemmas.Bool.{false_from_ne_true}, specs.declared.option.Option.TheVariants.{None, Some}}
use Rattle.std.specs.Prelude.{IfSome, IfNone}
use Rattle.bpf_insn_types.specs.declared.insn.Width.{Width}
use Rattle.value_range.specs.{Spans.{Span, IsSpan, Contains}, declared.condition.Condition.{Condition}}
use Rattle.value_range.specs.{RefineLaw.{RefinedContains}, RefineRows.{Refined, says, refined}}
use Rattle.value_range.proofs.RefineSpans.{refined-keeps}

pub refined-has : (condition : Condition) (width : Width) (a b : Span) → IsSpan a → IsSpan b → (x y : ℕ) → Contains a x
    → Contains b y →
    says condition width x y ≡ true → RefinedContains (refined condition width a b) x y
refined-has condition width a b i j x y c d met =
    (refined-keeps (record { span = i; contains = c }) (record { span = j; contains = d }) condition width).has met

-- so it is where something is left, and nothing is left only where no pair meets the condition
pub kept : (condition : Condition) (width : Width) (a b : Span) (r : Refined) → r ≡ refined condition width a b
    → IsSpan a → IsSpan b →
    IfSome r (λ pair. (x y : ℕ) → Contains a x → Contains b y → says condition width x y ≡ true → Contains pair.0 x
    × Contains pair.1 y)
kept condition width a b None e i j = tt
kept condition width a b (Some pair) e i j =
    λ x y c d met. rw (← e) at (refined-has condition width a b i j x y c d met)

pub empty : (condition : Condition) (width : Width) (a b : Span) (r : Refined) → r ≡ refined condition width a b
    → IsSpan a → IsSpan b →
    IfNone r ((x y : ℕ) → Contains a x → Contains b y → says condition width x y ≡ false)
empty condition width a b None e i j =
    λ x y c d.
    false_from_ne_true (says condition width x y) (λ met. rw (← e) at (refined-has condition width a b i j x y c d met))
empty condition width a b (Some pair) e i j = tt
