-- The first's greatest and the second's least number stay.
use Rattle.std.proofs.Common.{arith, ◌<◌, ◌+◌, ◌-◌}
use Rattle.value_range.proofs.RefineSpans.{cut-first, cut-second}
use Rattle.value_range.proofs.comparisons.greater.Goals as goal

pub norm-first-requires-clause-some : goal.norm-first-requires-clause-some
norm-first-requires-clause-some c =
    let more : c.args.b.lo < c.args.a.hi = omega (arith, c.if-hi-lo.false, c.hi.ensures.number, c.lo.ensures.number) in
    rw (c.zeros.ensures.number, c.max.ensures, c.lo-2.ensures.number, c.lo-3.ensures.number, c.hi-2.ensures.number)
    (cut-first c.args.a (c.args.b.lo + 1) c.zeros.ensures.span (omega arith))

pub norm-second-requires-clause-some : goal.norm-second-requires-clause-some
norm-second-requires-clause-some c =
    let more : c.args.b.lo < c.args.a.hi = omega (arith, c.if-hi-lo.false, c.hi.ensures.number, c.lo.ensures.number) in
    rw (c.zeros-2.ensures.number, c.lo-4.ensures.number, c.min.ensures, c.hi-3.ensures.number, c.hi-4.ensures.number)
    (cut-second c.args.b (c.args.a.hi - 1) c.zeros-2.ensures.span (omega arith))
