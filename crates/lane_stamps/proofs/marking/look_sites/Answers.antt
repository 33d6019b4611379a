use Rattle.std.proofs.Common.{false, ℕ, ◌<◌, length, slice_index_or, arith}
use Rattle.lane_stamps.specs.{declared.{kind.Kind.TheVariants.{Load}, site.Site.{Site}}, Sites.{shown}}
use Rattle.lane_stamps.specs.Marks.{LoadsNoGreater, top_at}
use Rattle.lane_stamps.proofs.{MarkLaws.{greater_more}, StampSteps.{each_more}}
use Rattle.lane_stamps.proofs.marking.look_sites.Goals as goal

pub loop-at-init : goal.loop-at-init
loop-at-init c = record {
  few = omega arith;
  none = λ k d less. absurd (omega (arith, less));
  met = λ less. absurd (omega (arith, less));
}

pub loop-at-preserved : goal.loop-at-preserved
loop-at-preserved c =
    let none : Site = record { kind = Load; rank = 0; watched = false; mask = 0; places = 0; value = 0 } in
    let sites = c.args.sites.now in
    let many = length sites in
    let lanes = shown c.args.lanes in
    let stamps = c.args.stamps.now in
    let base = c.args.base in
    let count = c.args.count in
    let at = c.loop-at.at in
    let inv = c.loop-at.invariant in
    let old = c.loop-at.limit in
    let new = c.look_site-limit.result in
    let few = c.look_site-limit.ensures.few in
    let inside : at < length sites = omega (arith, c.loop-at-test.true, c.loop-at.auto.at-end) in
    let site : Site = slice_index_or sites at none in
    record {
      few = omega (arith, few, inv.few);
      none = each_more (λ (i : ℕ). LoadsNoGreater lanes stamps new (top_at base many count i) many) sites at none
          inside
          (λ k d less watched load lane below there. inv.none k d less watched load lane (omega (arith, below, few))
          there)
          (rw c.top_of-top.ensures.top at c.look_site-limit.ensures.none);
      met = greater_more sites lanes stamps base count at old new none inside few
          (λ now. rw c.top_of-top.ensures.top at (c.look_site-limit.ensures.met now))
          inv.met;
    }
