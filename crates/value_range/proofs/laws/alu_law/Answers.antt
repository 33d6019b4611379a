-- Operands are spans, so each row leaves one and contains the meaning.
use Rattle.value_range.proofs.{AluContains.{span_of-contains}, RowSpans.{operand-span, span_of-span}}
use Rattle.value_range.proofs.laws.alu_law.Goals as goal

pub returns : goal.returns
returns c = record {
  is_span = span_of-span c.results_fit.ensures;
  contains = λ operation width a b i j.
      span_of-contains c.results_fit.ensures operation width a b (operand-span operation width a i)
      (operand-span operation width b j);
}
