-- The least number, shifted, lies between.
use Rattle.value_range.proofs.{RowBounds.{some-between, right-between}, SpanLaws.{lo-in}}
use Rattle.value_range.proofs.shifts.shifted_right.Goals as goal

pub norm-requires-clause-some : goal.norm-requires-clause-some
norm-requires-clause-some c =
    rw (
      c.saturating_sub.ensures,
      c.zeros.ensures.number,
      c.lo-then-lo-hi-2.ensures.number,
      c.hi-then-lo-hi.ensures.number,
    )
    (some-between _ _ _ _ (right-between c.args.a c.shift_amount-amount.result c.args.a.lo
    (lo-in c.args.a c.zeros.ensures.span)))
