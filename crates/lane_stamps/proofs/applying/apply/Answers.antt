use Rattle.std.proofs.Common.{false, ◌∙◌}
use Rattle.lane_stamps.specs.{declared.{kind.Kind.TheVariants.{Load}, site.Site.{Site}}, Sites.{shown}}
use Rattle.lane_stamps.proofs.ApplyLaws.{site_applied}
use Rattle.lane_stamps.proofs.applying.apply.Goals as goal

pub loop-site-preserved : goal.loop-site-preserved
loop-site-preserved c =
    let none : Site = record { kind = Load; rank = 0; watched = false; mask = 0; places = 0; value = 0 } in
    site_applied c.args.sites.now (shown c.args.lanes) c.loop-site.site-index c.args.count c.loop-site.words
    c.apply_site.new.words none c.loop-site-test.true c.apply_site.ensures
    ∙ c.loop-site.invariant
