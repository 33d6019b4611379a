use Rattle.shadow_marks.proofs.EndLaws.{one_comes, all_come, stand_for_more}
use Rattle.shadow_marks.proofs.planes.Planes.end_iteration.Goals as goal

pub loop-e-preserved : goal.loop-e-preserved
loop-e-preserved c = one_comes _ _ _ _ _ _ c.args.index _ _ c.in-Some.ensures c.fold.ensures c.loop-e.invariant

pub returns-clause-marks : goal.returns-clause-marks
returns-clause-marks c = all_come _ _ _ _ c.args.index c.in_default.ensures.was c.loop-e.invariant

pub returns-clause-visits : goal.returns-clause-visits
returns-clause-visits c =
    stand_for_more _ _ c.args.flags.now c.args.index c.requires.elements c.loop-e.invariant.shape
    (all_come _ _ _ _ c.args.index c.in_default.ensures.was c.loop-e.invariant)
