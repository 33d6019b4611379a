use Rattle.std.proofs.Common.{ℕ, ◌≤◌, length, slice_index}
use Rattle.lane_stamps.specs.Stamps.{IsLink}
use Rattle.lane_stamps.proofs.links.link.Given as goal

abbrev pub invariant-loop-at : goal.invariant-loop-at
invariant-loop-at l = record {
  few : l.at ≤ length l.sites;
  next : IsLink l.sites l.at l.next;
  linked : (k : ℕ) → l.at ≤ k → k ≤ length l.sites → IsLink l.sites k (slice_index l.links k);
}

abbrev pub decreases-loop-at : goal.decreases-loop-at
decreases-loop-at l = l.at
