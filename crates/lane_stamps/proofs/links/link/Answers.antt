use Rattle.std.proofs.{Common.{false, ◌<◌, length, arith}, lemmas.List.{length-set}}
use Rattle.lane_stamps.specs.declared.{kind.Kind.TheVariants.{Load}, site.Site.{Site}}
use Rattle.lane_stamps.proofs.LinkLaws.{link_end, linked_end, link_more, linked_more}
use Rattle.lane_stamps.proofs.links.link.Goals as goal

pub loop-at-init : goal.loop-at-init
loop-at-init c = record {
  few = omega arith;
  next = link_end c.args.sites.now;
  linked = linked_end c.args.sites.now c.args.links.now c.requires.room;
}

pub loop-at-preserved : goal.loop-at-preserved
loop-at-preserved c =
    let none : Site = record { kind = Load; rank = 0; watched = false; mask = 0; places = 0; value = 0 } in
    let sites = c.args.sites.now in
    let inv = c.loop-at.invariant in
    let at = c.loop-at.at in
    let some : 0 < at = c.loop-at-test.true in
    let room : length sites < length c.loop-at.links =
    omega (arith, c.requires.room, c.loop-at.auto.links, length-set c.args.links.now (length sites) (length sites)) in
    record {
      few = omega (arith, inv.few);
      next = link_more sites at c.loop-at.next c.nearer-next.result none some inv.few c.nearer-next.ensures inv.next;
      linked = linked_more sites c.loop-at.links at c.nearer-next.result some inv.few room
          (link_more sites at c.loop-at.next c.nearer-next.result none some inv.few c.nearer-next.ensures inv.next)
          inv.linked;
    }
