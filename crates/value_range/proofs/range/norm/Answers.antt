-- What both bounds are rounded to is a span.
use Rattle.value_range.proofs.SpanLaws.{rounded-span, norm-one, norm-more}
use Rattle.value_range.proofs.range.norm.Goals as goal

pub invariant_of-result : goal.invariant_of-result
invariant_of-result c =
    rounded-span c.args.lo c.args.hi c.args.zeros c.round_up-least.result c.round_down-greatest.result c.requires.bits
    c.ranges.hi.fits c.requires.some c.round_up-least.ensures c.round_down-greatest.ensures

pub returns-then-least-greatest : goal.returns-then-least-greatest
returns-then-least-greatest c =
    norm-one c.args.lo c.args.hi c.args.zeros c.round_up-least.result c.round_down-greatest.result c.exact.result
    c.round_up-least.ensures c.round_down-greatest.ensures c.if-least-greatest.true c.exact.ensures

pub returns-else-least-greatest : goal.returns-else-least-greatest
returns-else-least-greatest c =
    norm-more c.args.lo c.args.hi c.args.zeros c.round_up-least.result c.round_down-greatest.result
    c.round_up-least.ensures c.round_down-greatest.ensures c.if-least-greatest.false
