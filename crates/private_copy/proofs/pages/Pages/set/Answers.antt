use Rattle.std.proofs.Common.{◌∙◌}
use Rattle.private_copy.proofs.{CellLaws.{ShowsPage, shows_page}, pages.Pages.set.Goals.{After-deref_mut}}
use Rattle.private_copy.proofs.pages.Pages.set.Goals as goal

-- the element's page is placed
placed : (c : After-deref_mut) → ShowsPage c.self.inside.table.items c.args.self.now c.args.e c.deref_mut.result.now
placed c =
    shows_page c.self.inside c.args.self.now c.args.e _ _ _ c.self.view_is c.requires.within c.index_mut.ensures.value
    c.in-Some.is c.deref_mut.ensures.value

pub returns-clause-here : goal.returns-clause-here
returns-clause-here c =
    let at = placed (goal.at.returns-clause-here c).After-deref_mut in
    at.here _ ∙ c.set.ensures.here

pub returns-clause-others : goal.returns-clause-others
returns-clause-others c other differs =
    let at = placed (goal.at.returns-clause-others c).After-deref_mut in
    at.others _ c.set.ensures.others other differs
