use Rattle.loop_core_sequential.proofs.InOrder.{ran_both}
use Rattle.loop_core_sequential.proofs.ordering.range_in_order.Goals as goal

pub returns-in-Some-joined : goal.returns-in-Some-joined
returns-in-Some-joined c = rw (← c.new-run.ensures.program, ← c.new-run.ensures.call)
    (ran_both _ _ _ _ _ _ _ _ c.in_batches.result c.in_default-one_by_one.ensures.ran
    (rw c.one_by_one-2.ensures.same at c.in_batches.ensures.ran))

pub returns-in-None : goal.returns-in-None
returns-in-None c = rw (← c.new-run.ensures.program, ← c.new-run.ensures.call)
    (ran_both _ _ _ _ _ _ _ _ c.in_batches-in-None.result c.in_default-one_by_one.ensures.ran
    (rw c.one_by_one-2.ensures.same at c.in_batches-in-None.ensures.ran))
