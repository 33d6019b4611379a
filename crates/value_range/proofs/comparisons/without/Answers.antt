-- A range of several words goes on a step past its least, and ends a step before its greatest.
use Rattle.value_range.proofs.{RefineSpans.{without-least, without-greatest}, Computed.{step-shifted}}
use Rattle.value_range.proofs.comparisons.without.Goals as goal

pub norm-requires-clause-some : goal.norm-requires-clause-some
norm-requires-clause-some c =
    rw (
      c.zeros-then-lo-number.ensures.number,
      c.lo-then-lo-number.ensures.number,
      c.zeros.ensures.number,
      c.hi.ensures.number,
      step-shifted c.args.range c.lo.ensures.span c.requires,
    )
    (without-least c.args.range c.lo.ensures.span c.requires)

pub norm-requires-then-hi-number-clause-some : goal.norm-requires-then-hi-number-clause-some
norm-requires-then-hi-number-clause-some c =
    rw (
      c.zeros-then-hi-number-2.ensures.number,
      c.lo-then-hi-number.ensures.number,
      c.zeros-then-hi-number.ensures.number,
      c.hi-then-hi-number.ensures.number,
      step-shifted c.args.range c.lo.ensures.span c.requires,
    )
    (without-greatest c.args.range c.lo.ensures.span c.requires)
