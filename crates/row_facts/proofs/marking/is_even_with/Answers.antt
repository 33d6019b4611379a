use Rattle.std.proofs.{Common.{ℕ, subst, below_more, slice_index_or}, lemmas.List.{get_or_default}}
use Rattle.lane_stamps.specs.declared.site.Site.{Site}
use Rattle.row_facts.specs.Marks.{IsEven}
use Rattle.row_facts.proofs.marking.is_even_with.Goals as goal

pub loop-other-preserved : goal.loop-other-preserved
loop-other-preserved c = λ j d less.
    let sites = c.args.sites.now in
    let site = c.args.site.now in
    let at = c.loop-other.other-index in
    below_more (λ (k : ℕ). (e : Site) → IsEven site (slice_index_or sites k e)) at
    (λ k inside e. c.loop-other.invariant k e inside)
    (λ e. subst (IsEven site) (get_or_default sites at _ e c.loop-other-test.true) (c.is_even.ensures c.if-not-is_even.false))
    j less d
