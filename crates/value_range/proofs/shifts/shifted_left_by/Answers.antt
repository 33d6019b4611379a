-- Nothing is lost where the greatest number, shifted, is one of the width.
use Rattle.value_range.proofs.{RowBounds.{some-between, left-between}, Computed.{left-bounds, left-row}}
use Rattle.value_range.proofs.SpanLaws.{lo-in}
use Rattle.value_range.proofs.shifts.shifted_left_by.Goals as goal

pub norm-requires-clause-some : goal.norm-requires-clause-some
norm-requires-clause-some c =
    let bounds = left-bounds c.args.width c.args.a c.args.amount c.lo.result c.hi.result c.in-Some.hi
    c.hi.ensures.span c.requires c.lo.ensures.number c.hi.ensures.number c.in-Some.ensures.some.0
    c.in-Some.ensures.some.1 in
    rw (c.min-zeros.ensures, c.zeros.ensures.number, bounds.0, bounds.1) (some-between _ _ _ _ (left-between c.args.a
    c.args.amount c.args.a.lo (lo-in c.args.a c.zeros.ensures.span)))

pub returns-in-Some : goal.returns-in-Some
returns-in-Some c =
    let bounds = left-bounds c.args.width c.args.a c.args.amount c.lo.result c.hi.result c.in-Some.hi
    c.hi.ensures.span c.requires c.lo.ensures.number c.hi.ensures.number c.in-Some.ensures.some.0
    c.in-Some.ensures.some.1 in
    rw (c.norm.ensures, c.min-zeros.ensures, c.zeros.ensures.number, bounds.0)
    (left-row c.args.width c.args.a c.args.amount c.in-Some.hi bounds.1 c.in-Some.ensures.some.1)
