-- What the operands' spans contain decides what the result's contains.
use Rattle.std.proofs.Common.{subst}
use Rattle.value_range.{specs.Spans.{Span, IsSpan}, proofs.AluContains.{span_of-contains}}
use Rattle.value_range.proofs.arithmetic.alu.Goals as goal

pub returns-clause-contains : goal.returns-clause-contains
returns-clause-contains c =
    rw (c.of_operands.ensures.equal, c.operand-first.ensures, c.operand-second.ensures)
    (span_of-contains c.results_fit.ensures c.args.operation c.args.width c.args.a c.args.b
    (subst (λ (s : Span). IsSpan s) c.operand-first.ensures c.of_operands.ensures.first)
    (subst (λ (s : Span). IsSpan s) c.operand-second.ensures c.of_operands.ensures.second))
