use Rattle.std.proofs.Common.{arith}
use Rattle.row_facts.proofs.NarrowLaws.{narrower_more}
use Rattle.row_facts.proofs.narrowing.is_taken_from.Goals as goal

pub loop-at-preserved : goal.loop-at-preserved
loop-at-preserved c = (
  omega (arith, c.if-next-at.false, c.loop-at.invariant.0),
  narrower_more c.args.list.now c.args.mask c.loop-at.at c.in-Some.next c.loop-at.invariant.0 c.loop-at.invariant.1 c.in-Some.ensures,
)
