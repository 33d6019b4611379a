-- The bits of both least numbers lie between.
use Rattle.value_range.proofs.{RowBounds.{some-between, or-between}, SpanLaws.{lo-with}}
use Rattle.value_range.proofs.bits.with_bits.Goals as goal

pub norm-requires-clause-some : goal.norm-requires-clause-some
norm-requires-clause-some c =
    rw (
      c.min.ensures,
      c.max.ensures,
      c.fill.ensures.equal,
      c.zeros.ensures.number,
      c.zeros-2.ensures.number,
      c.lo.ensures.number,
      c.lo-2.ensures.number,
      c.hi.ensures.number,
      c.hi-2.ensures.number,
    )
    (some-between _ _ _ _ (or-between (lo-with c.args.a c.lo.ensures.span) (lo-with c.args.b c.lo-2.ensures.span)))
