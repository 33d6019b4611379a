use Rattle.std.proofs.Common.{◌≡◌, ℕ, ◌<◌, false, slice_index_or}
use Rattle.lane_stamps.specs.declared.site.Site.{Site}
use Rattle.lane_stamps.proofs.turns.watched_size.Given as goal

abbrev pub invariant-loop-site : goal.invariant-loop-site
invariant-loop-site l = (k : ℕ) (d : Site) → k < l.site-index → (slice_index_or l.sites k d).watched ≡ false
