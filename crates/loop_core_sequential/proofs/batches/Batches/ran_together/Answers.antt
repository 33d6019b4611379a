use Rattle.std.proofs.Common.{length, arith}
use Rattle.row_run.{specs.Batches.{rows_of, sites_of}, proofs.JoinLaws.{all_fewer}}
use Rattle.loop_core_sequential.proofs.Together.{loads_none_left}
use Rattle.loop_core_sequential.proofs.batches.Batches.ran_together.Goals as goal

pub returns : goal.returns
returns c = rw (← c.words.ensures.words) (record {
  few = omega (arith, c.in_ok-returned.ensures.few, c.limit-count.ensures.few);
  ran = all_fewer _ _ _ _ _ _ _ _ c.limit-count.ensures.few
      (rw (← c.limit-count.ensures.sites, ← c.limit-count.ensures.lanes) at c.in_ok-returned.ensures.ran);
  own = c.limit-count.ensures.own;
  applies = record {
    room = omega (arith, c.in_ok-returned.ensures.few, c.limit-count.ensures.few);
    rows = c.limit-count.ensures.rows;
    within = c.limit-count.ensures.within (length c.words.result.now) c.in_ok-returned.ensures.within;
    together = c.limit-count.ensures.together;
  };
  apart = loads_none_left (sites_of c.limit-count.new.self) (rows_of c.limit-count.new.self) c.limit-count.result
      (rw (← c.limit-count.ensures.sites) at c.in_ok-returned.ensures.ready.ranked) c.limit-count.ensures.unmet;
})
