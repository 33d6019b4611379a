use Rattle.std.proofs.Common.{ℕ, ◌<◌, slice_index_or}
use Rattle.lane_stamps.specs.declared.site.Site.{Site}
use Rattle.row_facts.specs.Marks.{IsEvenWith}
use Rattle.row_facts.proofs.marking.are_even.Given as goal

abbrev pub invariant-loop-site : goal.invariant-loop-site
invariant-loop-site l = (i : ℕ) (d : Site) → i < l.site-index → IsEvenWith l.sites (slice_index_or l.sites i d)
