use Rattle.std.proofs.Common.{false, ℕ, ◌<◌, length, slice_index_or, arith}
use Rattle.lane_rows.specs.Rows.{place_at}
use Rattle.lane_stamps.specs.{declared.{kind.Kind.TheVariants.{Load}, site.Site.{Site}}, Sites.{places_of, shown}}
use Rattle.lane_stamps.{specs.Marks.{LeavesMarks, top_at}, proofs.MarkLaws.{known_marks}}
use Rattle.lane_stamps.proofs.StampSteps.{each_more, rises_at}
use Rattle.lane_stamps.proofs.marking.mark_sites.Goals as goal

pub loop-at-init : goal.loop-at-init
loop-at-init c = record {
  marked = λ k d less. absurd (omega (arith, less));
  known = λ fresh slot above. absurd (omega (arith, fresh slot, above));
}

pub loop-at-preserved : goal.loop-at-preserved
loop-at-preserved c =
    let none : Site = record { kind = Load; rank = 0; watched = false; mask = 0; places = 0; value = 0 } in
    let sites = c.args.sites.now in
    let many = length sites in
    let lanes = shown c.args.lanes in
    let base = c.args.base in
    let count = c.args.count in
    let at = c.loop-at.at in
    let inv = c.loop-at.invariant in
    let old = c.loop-at.stamps in
    let new = c.mark_site.new.stamps in
    let long = c.mark_site.auto.stamps in
    let inside : at < length sites = omega (arith, c.loop-at-test.true, c.loop-at.auto.at-end) in
    let site : Site = slice_index_or sites at none in
    record {
      marked = each_more (λ (i : ℕ). LeavesMarks lanes new count (top_at base many count i) many) sites at none
          inside
          (λ k d less watched left lane within there. omega (
            arith,
            rises_at old new (place_at (places_of lanes (slice_index_or sites k d)) lane) long
                c.mark_site.ensures.rises,
            inv.marked k d less watched left lane within there,
          ))
          (rw c.top_of-top.ensures.top at c.mark_site.ensures.marked);
      known = λ fresh. known_marks sites lanes base count at old new none long inside
          (rw c.top_of-top.ensures.top at c.mark_site.ensures.only)
          (inv.known fresh);
    }
