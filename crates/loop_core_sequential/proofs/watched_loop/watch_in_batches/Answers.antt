use Rattle.std.proofs.Common.{◌∙◌, arith}
use Rattle.loop_core_sequential.proofs.WatchedEnds.{went_all}
use Rattle.loop_core_sequential.proofs.watched_loop.watch_in_batches.Goals as goal

pub loop-index-preserved : goal.loop-index-preserved
loop-index-preserved c = record {
  same = c.one_by_one_watched.ensures.same ∙ c.loop-index.invariant.same;
  within = c.resume-resume.ensures.within;
  sizes = c.one_by_one_watched.ensures.sizes ∙ c.run_batch_watched-next.ensures.sizes ∙ c.loop-index.invariant.sizes;
  count = c.one_by_one_watched.ensures.count;
  goes = λ start before. (rw c.loop-index.invariant.same at c.in-Completed.ensures.ran) start
      ((rw c.loop-index.invariant.same at c.run_batch_watched-next.ensures.goes) start
      (c.loop-index.invariant.goes start before));
}

pub returns-in-Broke : goal.returns-in-Broke
returns-in-Broke c = λ start before. (rw c.loop-index.invariant.same at c.in-Broke.ensures.ran) start
    ((rw c.loop-index.invariant.same at c.run_batch_watched-next.ensures.goes) start
    (c.loop-index.invariant.goes start before))

pub returns-in-Dependent : goal.returns-in-Dependent
returns-in-Dependent c = λ start before. (rw c.loop-index.invariant.same at c.in-Dependent.ensures.ran) start
    ((rw c.loop-index.invariant.same at c.run_batch_watched-next.ensures.goes) start
    (c.loop-index.invariant.goes start before))

pub returns : goal.returns
returns c = λ start before. went_all (omega arith) c.n-n.ensures (c.loop-index.invariant.goes start before)
