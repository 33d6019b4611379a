use Rattle.std.proofs.Common.{Some, refl}
use Rattle.loop_core_sequential.proofs.InOrder.{ran_both, broke_before, ran_all}
use Rattle.loop_core_sequential.proofs.progress.resume_in_order.Goals as goal

pub returns-then-progress : goal.returns-then-progress
returns-then-progress c = rw c.restore.ensures.maps
    (ran_all c.args.program.now c.args.call.now c.args.call.now.n c.args.maps.now _ (Some c.args.progress.done) _ refl
    (broke_before _ _ _ _ _ _ _ _ c.requires.ahead.within (rw c.if-progress.true at c.requires.ahead.ran)) refl)

pub returns : goal.returns
returns c =
    ran_all _ _ _ _ _ c.range_in_order.result _ c.n-n.ensures
    (ran_both _ _ _ _ _ _ _ _ c.range_in_order.result
    (rw c.restore.ensures.maps (rw c.if-progress.false at c.requires.ahead.ran)) c.range_in_order.ensures)
    c.answer.ensures
