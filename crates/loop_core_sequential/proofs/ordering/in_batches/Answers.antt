use Rattle.std.proofs.Common.{Some, ◌∙◌}
use Rattle.loop_core_sequential.proofs.InOrder.{broke_before, ran_both, went_both}
use Rattle.loop_core_sequential.proofs.ordering.in_batches.Goals as goal

pub returns-in-Some : goal.returns-in-Some
returns-in-Some c = record {
  same = c.one_by_one.ensures.same ∙ c.loop-index.invariant.same;
  ran = broke_before _ _ _ _ _ _ _ _ c.resume-resume.ensures.within
      (ran_both _ _ _ _ _ _ _ _ (Some c.in-Some.answer)
      (went_both _ _ _ _ _ _ _ _ c.loop-index.invariant.went
      (rw c.loop-index.invariant.same at c.run_batch-next.ensures.went))
      (rw c.loop-index.invariant.same at c.in-Some.ensures.ran));
}

pub loop-index-preserved : goal.loop-index-preserved
loop-index-preserved c = record {
  same = c.one_by_one.ensures.same ∙ c.loop-index.invariant.same;
  within = c.resume-resume.ensures.within;
  went = went_both _ _ _ _ _ _ _ _ c.loop-index.invariant.went
      (rw c.loop-index.invariant.same at
      (went_both _ _ _ _ _ _ _ _ c.run_batch-next.ensures.went c.in_default.ensures.ran));
}
