use Rattle.std.proofs.Common.{arith}
use Rattle.loop_core_sequential.proofs.NotingLaws.{one_noted}
use Rattle.loop_core_sequential.proofs.noting.note_each.Goals as goal

pub loop-lane-preserved : goal.loop-lane-preserved
loop-lane-preserved c =
    one_noted _ c.loop-lane.lane c.args.halves c.args.mask.now c.args.places.now _ _ _
    (λ k below made. c.requires.within k (omega arith) made) c.note_if_made.ensures c.loop-lane.invariant
