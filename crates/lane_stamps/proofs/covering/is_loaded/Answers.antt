use Rattle.std.proofs.{Common.{subst}, lemmas.List.{get_or_default}}
use Rattle.lane_stamps.specs.{declared.site.Site.{Site}, Sites.{shown}, Marks.{IsLoadedBy}}
use Rattle.lane_stamps.proofs.covering.is_loaded.Goals as goal

pub returns-then-is_loaded_by : goal.returns-then-is_loaded_by
returns-then-is_loaded_by c always left lane less there = record {
  by = c.loop-by.by-index;
  within = c.loop-by-test.true;
  loaded = λ d. subst (λ (by : Site). IsLoadedBy (shown c.args.lanes) c.args.site.now by lane)
      (get_or_default c.args.sites.now c.loop-by.by-index _ d c.loop-by-test.true)
      (c.is_loaded_by.ensures c.if-is_loaded_by.true lane less there);
}
