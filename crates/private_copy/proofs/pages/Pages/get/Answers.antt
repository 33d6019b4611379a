use Rattle.std.proofs.Common.{◌/◌, ◌%◌, refl, sym, ◌∙◌, ap, Some, None}
use Rattle.private_copy.{specs.{declared.page.Page.{Page}, Cells.{cell_in}}, proofs.CellLaws.{reads}}
use Rattle.private_copy.proofs.pages.Pages.get.Goals as goal

pub returns-in-Some : goal.returns-in-Some
returns-in-Some c =
    let at = reads c.self.inside c.args.self.now (c.args.e / 64) c.index.result.now (Some c.in-Some.page) c.self.view_is
    c.requires c.index.ensures c.in-Some.is in
    c.get.ensures ∙ ap (λ (page : Page). cell_in page (c.args.e % 64)) c.deref.ensures ∙ sym (at.cells c.args.e refl)

pub returns-in-None : goal.returns-in-None
returns-in-None c =
    let at = reads c.self.inside c.args.self.now (c.args.e / 64) c.index.result.now None c.self.view_is
    c.requires c.index.ensures c.in-None.is in
    sym (at.cells c.args.e refl)
