use Rattle.std.{proofs.Common.{ℕ, refl, below_more, arith, slice_index_or}, specs.List.{All}}
use Rattle.lane_stamps.{specs.{Sites.{shown}, Stamps.{WatchedStamped}}, proofs.StampSteps.{watched_after, unmet_more}}
use Rattle.lane_stamps.proofs.stamping.count_unmet.Goals as goal

pub loop-lane-preserved : goal.loop-lane-preserved
loop-lane-preserved c =
    let sites = c.args.sites.now in
    let lanes = shown c.args.lanes in
    let lane = c.loop-lane.lane in
    let base = c.args.base in
    let inv = c.loop-lane.invariant in
    let old = c.loop-lane.stamps in
    let new = c.go_lane.new.stamps in
    record {
      stamped = below_more (λ (i : ℕ). All (WatchedStamped new base lanes i) sites) lane
          (λ i less k d inside. watched_after old new base lanes i (slice_index_or sites k d) c.go_lane.auto.stamps
          c.go_lane.ensures.rises (inv.stamped i less k d inside))
          (c.if-not-go_lane.ensures.stamped refl);
      unmet = unmet_more sites old base lanes lane inv.stamped (c.if-not-go_lane.ensures.free refl) inv.unmet;
      own = below_more _ _ inv.own (c.if-not-go_lane.ensures.own refl);
      known = λ fresh. c.if-not-go_lane.ensures.known (inv.known fresh) refl;
      stale = λ most all stale. c.go_lane.ensures.stale most all (inv.stale most all stale);
    }

pub returns-clause-unmet : goal.returns-clause-unmet
returns-clause-unmet c later earlier order below =
    c.loop-lane.invariant.unmet later earlier order
    (omega (arith, below, c.loop-lane.auto.lane-end, c.loop-lane-test.false))
