use Rattle.std.proofs.Common.{sym, ◌∙◌}
use Rattle.row_facts.proofs.{ListLaws.{listed_more}, SiteLaws.{has-place}}
use Rattle.row_facts.proofs.listing.list_site.Goals as goal

pub returns : goal.returns
returns c = λ good ops are.
    rw (c.in_ok-extend_from_slice.ensures.items, c.in_ok-extend_from_slice-2.ensures.items)
    (listed_more ops c.args.made.now.accesses.items c.args.made.now.sites.items c.args.op.now c.in-Some-site_of.site
    (has-place c.args.op.now c.in-Some.place (sym c.place.ensures ∙ c.in-Some.is)) c.in-Some-site_of.ensures are)
