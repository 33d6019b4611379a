-- The law of operations on spans.
use Rattle.std.specs.Prelude.{ℕ}
use Rattle.bpf_insn_types.specs.declared.insn.Width.{Width}
use Rattle.value_range.specs.{Spans.{Span, IsSpan, Contains}, declared.operation.Operation.{Operation}}
use Rattle.value_range.specs.AluRows.{meant, span_of}

-- what an operation leaves of two spans is one, and contains its meaning on each pair of their words
pub record AluLaw : Type 0 where
  pub is_span : (operation : Operation) (width : Width) (a b : Span) → IsSpan a → IsSpan b
      → IsSpan (span_of operation width a b)
  pub contains : (operation : Operation) (width : Width) (a b : Span) → IsSpan a → IsSpan b →
      (x y : ℕ) → Contains a x → Contains b y → Contains (span_of operation width a b) (meant operation width x y)
