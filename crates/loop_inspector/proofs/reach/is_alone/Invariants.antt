use Rattle.std.{proofs.Common.{◌≡◌, ℕ, ◌<◌, ◌⊎◌}, specs.Prelude.{slice_get, Some}}
use Rattle.row_facts.specs.{declared.site.Site.{Site}, Meetings.{ReduceAlike}}
use Rattle.loop_inspector.specs.Reach.{AreSitesApart}
use Rattle.loop_inspector.proofs.reach.is_alone.Given as goal

abbrev pub invariant-loop-at : goal.invariant-loop-at
invariant-loop-at l = (k : ℕ) (at : Site) → k < l.at-index → slice_get l.sites k ≡ Some at →
    ReduceAlike l.by.op at.op ⊎ AreSitesApart at l.by l.n
