-- The least number's quotient lies between.
use Rattle.std.proofs.Common.{arith, ◌<◌}
use Rattle.value_range.proofs.{RowBounds.{some-between, quotient-between}, SpanLaws.{lo-in}}
use Rattle.value_range.proofs.quotients.divided.Goals as goal

pub norm-requires-else-lo-eq0-clause-some : goal.norm-requires-else-lo-eq0-clause-some
norm-requires-else-lo-eq0-clause-some c =
    let positive : 0 < c.args.b.lo = omega (arith, c.if-lo-eq0.false, c.lo-else-lo-hi.ensures.number) in
    rw (
      c.lo-else-lo-eq0.ensures.number,
      c.lo-else-lo-eq0-2.ensures.number,
      c.hi-else-lo-eq0.ensures.number,
      c.lo-else-lo-eq0-3.ensures.number,
    )
    (some-between _ _ _ _ (quotient-between c.args.a c.args.b.lo c.args.a.lo positive
    (lo-in c.args.a c.lo-else-lo-eq0.ensures.span)))
