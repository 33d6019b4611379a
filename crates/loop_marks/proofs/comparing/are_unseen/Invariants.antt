use Rattle.std.proofs.Common.{ℕ, ◌+◌, ◌<◌, slice_index_or, take, drop}
use Rattle.lane_stamps.specs.{declared.site.Site.{Site}, Sites.{shown}}
use Rattle.loop_marks.specs.SiteMarks.{IsFree}
use Rattle.loop_marks.proofs.comparing.are_unseen.Given as goal

abbrev pub invariant-loop-at : goal.invariant-loop-at
invariant-loop-at l = (k : ℕ) (d : Site) → k < l.at
    → IsFree (shown l.of_lanes) l.lanes (take k l.sites) (slice_index_or l.sites k d) (drop (k + 1) l.sites)
