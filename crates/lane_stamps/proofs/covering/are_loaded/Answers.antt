use Rattle.std.proofs.Common.{◌≡◌, ℕ, true}
use Rattle.lane_stamps.specs.{declared.site.Site.{Site}, Sites.{shown}, Marks.{EachThere, IsPlain}}
use Rattle.lane_stamps.proofs.StampSteps.{each_more}
use Rattle.lane_stamps.proofs.covering.are_loaded.Goals as goal

pub loop-site-preserved : goal.loop-site-preserved
loop-site-preserved c =
    each_more (λ (k : ℕ) (site : Site). site.watched ≡ true → EachThere (shown c.args.lanes) c.args.count site
    (IsPlain c.args.sites.now (shown c.args.lanes) c.args.halves site)) c.args.sites.now c.loop-site.site-index _
    c.loop-site-test.true c.loop-site.invariant (c.is_plain.ensures c.if-not-is_plain.false)
