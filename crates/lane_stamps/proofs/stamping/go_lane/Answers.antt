use Rattle.std.proofs.Common.{false, ℕ, ◌+◌, ◌<◌, slice_index, slice_index_or, arith, refl, length, subst}
use Rattle.lane_stamps.specs.{declared.{site.Site.{Site}, kind.Kind.TheVariants.{Load}}, Sites.{shown}}
use Rattle.lane_stamps.specs.Stamps.{AreFree, AreStamped, IsLink, LoadsNoOwn, Meets, WatchedFree, WatchedOwn}
use Rattle.lane_stamps.{specs.Stamps.{WatchedStamped}, proofs.LinkLaws.{skipped, skipped_pairs}}
use Rattle.lane_stamps.proofs.KnownSteps.{known_more, known_meets, known_on, lane_on, site_on, stale_more}
use Rattle.lane_stamps.proofs.StampSteps.{each_more, pairs_more, watched_before, watched_after, watched_own}
use Rattle.lane_stamps.proofs.stamping.go_lane.Goals as goal

pub loop-at-init : goal.loop-at-init
loop-at-init c =
    let sites = c.args.sites.now in
    let lanes = shown c.args.lanes in
    let base = c.args.base in
    let lane = c.args.lane in
    let stamps = c.args.stamps.now in
    let link = c.requires.links 0 (omega arith) in
    let next = slice_index c.args.links.now 0 in
    record {
      few = link.within;
      free = skipped (AreFree stamps base lanes lane) sites 0 next link (λ k d less. absurd (omega (arith, less)));
      stamped = skipped (AreStamped stamps base lanes lane) sites 0 next link
          (λ k d less. absurd (omega (arith, less)));
      own = skipped_pairs (LoadsNoOwn lanes lane) sites 0 next link (λ i j d order less. absurd (omega (arith, less)));
      rises = λ at. omega arith;
      known = known_on sites lanes base lane 0 lane next stamps (site_on lane 0 next link.onward);
      stale = λ most all stale. stale;
    }

pub loop-at-preserved : goal.loop-at-preserved
loop-at-preserved c =
    let none : Site = record { kind = Load; rank = 0; watched = false; mask = 0; places = 0; value = 0 } in
    let sites = c.args.sites.now in
    let lanes = shown c.args.lanes in
    let k = c.loop-at.at in
    let base = c.args.base in
    let lane = c.args.lane in
    let inv = c.loop-at.invariant in
    let first = c.args.stamps.now in
    let old = c.loop-at.stamps in
    let new = c.go_at.new.stamps in
    let long = c.go_at.auto.stamps in
    let inside : k < length sites = c.loop-at-test.true in
    let link : IsLink sites (k + 1) (slice_index c.args.links.now (k + 1)) = c.requires.links (k + 1) (omega (
      arith,
      inside,
    )) in
    let next = slice_index c.args.links.now (k + 1) in
    let free : WatchedFree first base lanes lane (slice_index_or sites k none) =
    watched_before first old base lanes lane (slice_index_or sites k none) c.loop-at.auto.stamps inv.rises
    (λ watched. c.if-not-go_at.ensures.free refl) in
    record {
      few = link.within;
      free = skipped (AreFree first base lanes lane) sites (k + 1) next link
          (each_more (λ (i : ℕ). WatchedFree first base lanes lane) sites k none inside inv.free free);
      stamped = skipped (AreStamped new base lanes lane) sites (k + 1) next link
          (each_more (λ (i : ℕ). WatchedStamped new base lanes lane) sites k none inside
          (λ i d less. watched_after old new base lanes lane (slice_index_or sites i d) long c.go_at.ensures.rises
          (inv.stamped i d less))
          (λ watched. c.if-not-go_at.ensures.stamped refl));
      own = skipped_pairs (LoadsNoOwn lanes lane) sites (k + 1) next link
          (pairs_more (WatchedOwn lanes lane) sites k none inside inv.own
          (λ i d less. watched_own old base lanes lane (slice_index_or sites i d) (slice_index_or sites k none)
          (c.requires.ranked.some i d (omega (arith, less, inside)))
          (inv.stamped i d less) (λ watched. c.if-not-go_at.ensures.free refl)));
      rises = λ at. omega (arith, inv.rises at, c.go_at.ensures.rises at);
      known = λ start. known_on sites lanes base lane (k + 1) lane next new (site_on lane (k + 1) next link.onward)
          (known_more sites lanes base lane k old new none long inside c.go_at.ensures.only (inv.known start));
      stale = λ most all stale. stale_more sites lanes base lane k most old new none inside
          c.go_at.ensures.only all (inv.stale most all stale);
    }

pub returns-then-not-go_at-clause-met : goal.returns-then-not-go_at-clause-met
returns-then-not-go_at-clause-met c start stopped =
    let none : Site = record { kind = Load; rank = 0; watched = false; mask = 0; places = 0; value = 0 } in
    let lanes = shown c.args.lanes in
    subst (λ (slots : ℕ). Meets c.args.sites.now lanes slots c.args.lane) c.loop-at.auto.stamps
    (known_meets c.args.sites.now lanes c.args.base c.args.lane c.loop-at.at c.loop-at.stamps none
    c.loop-at-test.true (c.loop-at.invariant.known start) (c.if-not-go_at.ensures.met refl))

pub returns-clause-known : goal.returns-clause-known
returns-clause-known c start went =
    known_on c.args.sites.now (shown c.args.lanes) c.args.base c.args.lane c.loop-at.at (c.args.lane + 1) 0
    c.loop-at.stamps (lane_on c.args.lane c.loop-at.at) (c.loop-at.invariant.known start)
