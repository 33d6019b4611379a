use Rattle.std.proofs.Common.{◌∙◌, ap}
use Rattle.private_copy.{specs.Cells.{mixed_cell}, proofs.CellLaws.{ShowsPage, shows_page}}
use Rattle.private_copy.proofs.pages.Pages.mark_mixed.Goals.{After-deref_mut}
use Rattle.private_copy.proofs.pages.Pages.mark_mixed.Goals as goal

-- the element's page is placed
placed : (c : After-deref_mut) → ShowsPage c.self.inside.table.items c.args.self.now c.args.e c.deref_mut.result.now
placed c =
    shows_page c.self.inside c.args.self.now c.args.e _ _ _ c.self.view_is c.requires.within c.index_mut.ensures.value
    c.in-Some.is c.deref_mut.ensures.value

pub returns-clause-here : goal.returns-clause-here
returns-clause-here c =
    let at = placed (goal.at.returns-clause-here c).After-deref_mut in
    at.here _ ∙ c.mark_mixed.ensures.here ∙ ap mixed_cell at.was

pub returns-clause-others : goal.returns-clause-others
returns-clause-others c other differs =
    let at = placed (goal.at.returns-clause-others c).After-deref_mut in
    at.others _ c.mark_mixed.ensures.others other differs
