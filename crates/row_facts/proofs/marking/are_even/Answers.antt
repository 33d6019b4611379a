use Rattle.std.proofs.{Common.{ℕ, subst, below_more, slice_index_or}, lemmas.List.{get_or_default}}
use Rattle.lane_stamps.specs.declared.site.Site.{Site}
use Rattle.row_facts.specs.Marks.{IsEvenWith}
use Rattle.row_facts.proofs.marking.are_even.Goals as goal

pub loop-site-preserved : goal.loop-site-preserved
loop-site-preserved c = λ i d less.
    let sites = c.args.sites.now in
    let at = c.loop-site.site-index in
    below_more (λ (k : ℕ). (e : Site) → IsEvenWith sites (slice_index_or sites k e)) at
    (λ k inside e. c.loop-site.invariant k e inside)
    (λ e. subst (IsEvenWith sites) (get_or_default sites at _ e c.loop-site-test.true) (c.is_even_with.ensures c.if-not-is_even_with.false))
    i less d
