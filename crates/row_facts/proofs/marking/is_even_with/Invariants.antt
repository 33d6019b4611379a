use Rattle.std.proofs.Common.{ℕ, ◌<◌, slice_index_or}
use Rattle.lane_stamps.specs.declared.site.Site.{Site}
use Rattle.row_facts.specs.Marks.{IsEven}
use Rattle.row_facts.proofs.marking.is_even_with.Given as goal

abbrev pub invariant-loop-other : goal.invariant-loop-other
invariant-loop-other l = (j : ℕ) (d : Site) → j < l.other-index → IsEven l.site (slice_index_or l.sites j d)
