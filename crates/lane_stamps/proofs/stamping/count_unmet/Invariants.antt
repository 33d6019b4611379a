use Rattle.std.{proofs.Common.{ℕ, ◌<◌}, specs.List.{All, AllPairs}}
use Rattle.lane_stamps.specs.Sites.{shown}
use Rattle.lane_stamps.specs.Stamps.{AreKnown, AreStale, StayStale, WatchedOwn, WatchedStamped, WatchedUnmet}
use Rattle.lane_stamps.proofs.stamping.count_unmet.Given as goal

abbrev pub invariant-loop-lane : goal.invariant-loop-lane
invariant-loop-lane l = record {
  stamped : (earlier : ℕ) → earlier < l.lane → All (WatchedStamped l.stamps l.base (shown l.lanes) earlier) l.sites;
  unmet : WatchedUnmet l.sites (shown l.lanes) l.lane;
  own : (lane : ℕ) → lane < l.lane → AllPairs (WatchedOwn (shown l.lanes) lane) l.sites;
  known : AreStale l.fn.stamps l.base → AreKnown l.sites (shown l.lanes) l.base l.stamps l.lane 0;
  stale : StayStale l.sites l.base l.fn.stamps l.stamps;
}
