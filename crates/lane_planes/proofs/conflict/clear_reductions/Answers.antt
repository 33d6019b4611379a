use Rattle.std.proofs.Common.{arith}
use Rattle.lane_planes.proofs.conflict.clear_reductions.Goals as goal

pub returns-clause-fit : goal.returns-clause-fit
returns-clause-fit g c i within =
    c.loop-at-2.invariant.fit (omega (arith, c.loop-at-2-test.false, c.loop-at-2.auto.into, within)) i
    (omega (arith, c.loop-at-2.auto.into, within))
