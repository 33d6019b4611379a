use Rattle.std.proofs.Common.{ℕ, ◌-◌, ◌<◌, ◌≤◌, length, slice_index_or}
use Rattle.lane_stamps.specs.{declared.site.Site.{Site}, Sites.{shown}}
use Rattle.lane_stamps.specs.Stamps.{AreKnown, Rises, StayStale, WatchedFree, WatchedOwn, WatchedStamped}
use Rattle.lane_stamps.proofs.stamping.go_lane.Given as goal

abbrev pub invariant-loop-at : goal.invariant-loop-at
invariant-loop-at l = record {
  few : l.at ≤ length l.sites;
  free : (k : ℕ) (d : Site) → k < l.at
      → WatchedFree l.fn.stamps l.base (shown l.lanes) l.lane (slice_index_or l.sites k d);
  stamped : (k : ℕ) (d : Site) → k < l.at
      → WatchedStamped l.stamps l.base (shown l.lanes) l.lane (slice_index_or l.sites k d);
  own : (i j : ℕ) (d : Site) → i < j → j < l.at
      → WatchedOwn (shown l.lanes) l.lane (slice_index_or l.sites i d) (slice_index_or l.sites j d);
  rises : Rises l.fn.stamps l.stamps;
  known : AreKnown l.sites (shown l.lanes) l.base l.fn.stamps l.lane 0
      → AreKnown l.sites (shown l.lanes) l.base l.stamps l.lane l.at;
  stale : StayStale l.sites l.base l.fn.stamps l.stamps;
}

abbrev pub decreases-loop-at : goal.decreases-loop-at
decreases-loop-at l = length l.sites - l.at
