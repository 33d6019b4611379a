-- The least product lies between.
use Rattle.value_range.proofs.RowBounds.{multiplied_some}
use Rattle.value_range.proofs.sums.multiplied.Goals as goal

pub norm-requires-clause-some : goal.norm-requires-clause-some
norm-requires-clause-some c =
    rw (
      c.min-zeros.ensures,
      c.in-Some.ensures.some.0,
      c.zeros.ensures.number,
      c.zeros-2.ensures.number,
      c.lo.ensures.number,
      c.lo-in-Some.ensures.number,
      c.hi.ensures.number,
      c.hi-2.ensures.number,
    )
    (multiplied_some c.args.a c.args.b c.zeros.ensures.span c.zeros-2.ensures.span)
