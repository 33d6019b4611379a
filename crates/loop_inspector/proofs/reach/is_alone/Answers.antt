use Rattle.std.proofs.{Common.{◌⊎◌, ℕ, length, refl, inl, inr, arith}, lemmas.Option.{slice_get_read, slice_get_within}}
use Rattle.row_facts.specs.{declared.site.Site.{Site}, Meetings.{ReduceAlike}}
use Rattle.loop_inspector.specs.Reach.{AreSitesApart}
use Rattle.loop_inspector.proofs.SpanLaws.{each-more}
use Rattle.loop_inspector.proofs.reach.is_alone.Goals.{else-not-reduce_alike-via-then-not-reduce_alike+else-not-are_sites_apart}
use Rattle.loop_inspector.proofs.reach.is_alone.Goals.{else-not-reduce_alike-via-else-not-reduce_alike}
use Rattle.loop_inspector.proofs.reach.is_alone.Goals as goal

pub loop-at-preserved : goal.loop-at-preserved
loop-at-preserved c =
    let sites = c.args.sites.now in
    let by = c.args.by.now in
    let at = c.at-item.result in
    each-more (λ (k : ℕ) (site : Site). ReduceAlike by.op site.op ⊎ AreSitesApart site by c.args.n) sites
    c.loop-at.at-index at
    (slice_get_read sites (length sites) c.loop-at.at-index at refl c.loop-at-test.true c.at-item.is)
    (elim c.else-not-reduce_alike.branch [
      | else-not-reduce_alike-via-then-not-reduce_alike+else-not-are_sites_apart w ↦
          inr (w.are_sites_apart.ensures w.if-not-are_sites_apart.false)
      | else-not-reduce_alike-via-else-not-reduce_alike w ↦ inl (c.reduce_alike.ensures w.if-not-reduce_alike.false)
    ])
    c.loop-at.invariant

pub returns : goal.returns
returns c is k at there =
    let inside = slice_get_within c.args.sites.now k at there in
    c.loop-at.invariant k at (omega (arith, inside, c.loop-at-test.false)) there
