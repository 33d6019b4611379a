use Rattle.std.proofs.Common.{false, sym}
use Rattle.lane_stamps.specs.{declared.{kind.Kind.TheVariants.{Load}, site.Site.{Site}}, Sites.{shown}}
use Rattle.loop_marks.proofs.SiteLaws.{covered_at}
use Rattle.loop_marks.proofs.comparing.is_covered.Goals as goal

pub returns-then-goes_with : goal.returns-then-goes_with
returns-then-goes_with c = λ is.
    let none : Site = record { kind = Load; rank = 0; watched = false; mask = 0; places = 0; value = 0 } in
    covered_at (shown c.args.of_lanes) c.args.lanes c.args.access c.args.site.now c.args.others.now
    c.loop-other.other-index none c.loop-other-test.true (c.goes_with.ensures c.if-goes_with.true)
    (rw (sym c.access_of.ensures) (c.covers.ensures c.if-covers.true))
