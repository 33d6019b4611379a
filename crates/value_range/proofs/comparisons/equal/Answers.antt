-- Rounded inward, the bounds cross where nothing lies between.
use Rattle.std.proofs.Common.{◌∙◌, min, max}
use Rattle.value_range.proofs.Computed.{equal-none, equal-some, equal-within}
use Rattle.value_range.proofs.comparisons.equal.Goals as goal

pub returns-then-hi-lo : goal.returns-then-hi-lo
returns-then-hi-lo c =
    equal-none c.args.a c.args.b c.max-zeros.result c.max-lo.result c.min.result c.round_down-hi.result
    (c.max-zeros.ensures ∙ (λ i. max (c.zeros.ensures.number i) (c.zeros-2.ensures.number i)))
    (c.max-lo.ensures ∙ (λ i. max (c.lo.ensures.number i) (c.lo-2.ensures.number i)))
    (c.min.ensures ∙ (λ i. min (c.hi.ensures.number i) (c.hi-2.ensures.number i)))
    c.round_down-hi.ensures c.if-hi-lo.true

pub norm-common-requires-clause-some : goal.norm-common-requires-clause-some
norm-common-requires-clause-some c =
    equal-within c.max-zeros.result c.max-lo.result c.min.result c.round_down-hi.result c.round_down-hi.ensures
    c.if-hi-lo.false

pub returns : goal.returns
returns c =
    equal-some c.args.a c.args.b c.norm-common.result c.max-zeros.result c.max-lo.result c.min.result
    c.round_down-hi.result
    (c.max-zeros.ensures ∙ (λ i. max (c.zeros.ensures.number i) (c.zeros-2.ensures.number i)))
    (c.max-lo.ensures ∙ (λ i. max (c.lo.ensures.number i) (c.lo-2.ensures.number i)))
    (c.min.ensures ∙ (λ i. min (c.hi.ensures.number i) (c.hi-2.ensures.number i)))
    c.round_down-hi.ensures c.if-hi-lo.false c.norm-common.ensures
