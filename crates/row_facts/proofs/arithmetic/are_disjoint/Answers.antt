use Rattle.std.proofs.{Common.{◌/◌, ◌^◌, ◌<◌, arith}, lemmas.Bool.{eqb-true}}
use Rattle.value_range.proofs.Multiples.{coarser}
use Rattle.row_facts.proofs.OperatorLaws.{sum-of-bits, sum-of-bits_turned, shifted-away}
use Rattle.row_facts.proofs.arithmetic.are_disjoint.Goals as goal

pub returns-then-hi-min-eq0 : goal.returns-then-hi-min-eq0
returns-then-hi-min-eq0 c is x y first second =
    let k = c.min.result in
    let small : c.hi.result < 2 ^ k = shifted-away k c.hi.result (eqb-true (c.hi.result / 2 ^ k) 0 is) in
    sum-of-bits k x y (coarser k c.args.first.zeros x (omega (arith, c.zeros.ensures.number)) first.multiple)
    (omega (arith, small, second.below, c.hi.ensures.number))

pub returns-else-hi-min-eq0 : goal.returns-else-hi-min-eq0
returns-else-hi-min-eq0 c is x y first second =
    let k = c.min-else-hi-min-eq0.result in
    let h = c.hi-else-hi-min-eq0.result in
    let small : h < 2 ^ k = shifted-away k h (eqb-true (h / 2 ^ k) 0 is) in
    sum-of-bits_turned y x
    (sum-of-bits k y x (coarser k c.args.second.zeros y (omega (arith, c.zeros-else-hi-min-eq0.ensures.number))
    second.multiple)
    (omega (arith, small, first.below, c.hi-else-hi-min-eq0.ensures.number)))
