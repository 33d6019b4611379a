-- Each operation leaves a span.
use Rattle.bpf_insn_types.specs.{declared.insn.Width.{Width}, WordBounds.{ResultsFit}}
use Rattle.value_range.specs.{Spans.{Span, IsSpan}, declared.operation.Operation.{Operation}}
use Rattle.value_range.specs.AluRows.{operand, span_of}
use Rattle.value_range.proofs.{AluContains.{operand-keeps, of_operands-with}, SpanLaws.{lo-in}}

pub operand-span : (operation : Operation) (width : Width) (s : Span) → IsSpan s → IsSpan (operand operation width s)
operand-span operation width s i = (operand-keeps operation width s s.lo (lo-in s i)).0 i

pub span_of-span : ResultsFit → (operation : Operation) (width : Width) (a b : Span) → IsSpan a → IsSpan b
    → IsSpan (span_of operation width a b)
span_of-span fit operation width a b i j =
    let first = operand-keeps operation width a a.lo (lo-in a i) in
    let second = operand-keeps operation width b b.lo (lo-in b j) in
    (of_operands-with fit a.lo b.lo operation width (record { span = first.0 i; contains = first.1 (first.0 i) })
    (record { span = second.0 j; contains = second.1 (second.0 j) })).span
