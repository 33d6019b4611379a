use Rattle.std.proofs.Common.{◌≡◌, ℕ, ◌<◌, true, slice_index_or}
use Rattle.lane_stamps.specs.{declared.site.Site.{Site}, Sites.{shown}, Marks.{EachThere, IsPlain}}
use Rattle.lane_stamps.proofs.covering.are_loaded.Given as goal

abbrev pub invariant-loop-site : goal.invariant-loop-site
invariant-loop-site l = (k : ℕ) (d : Site) → k < l.site-index → (slice_index_or l.sites k d).watched ≡ true
    → EachThere (shown l.lanes) l.count (slice_index_or l.sites k d)
    (IsPlain l.sites (shown l.lanes) l.halves (slice_index_or l.sites k d))
