use Rattle.std.proofs.Common.{◌/◌, ◌%◌, refl, sym, ◌∙◌, ap, arith, length, Some, None}
use Rattle.std.{specs.Prelude.{is_some}, proofs.lemmas.List.{length-map, length-take}}
use Rattle.private_copy.specs.{declared.page.Page.{Page}, Cells.{PlacedPages, total_of, cell_in, cells_of}}
use Rattle.private_copy.proofs.{PageLaws.{some_left}, CellLaws.{Reads, reads}, pages.Pages.visit.Goals.{In_default}}
use Rattle.private_copy.proofs.pages.Pages.visit.Goals as goal

pub returns-in-Some-clause-cell : goal.returns-in-Some-clause-cell
returns-in-Some-clause-cell c =
    let at = reads c.self.inside c.args.self.now (c.args.e / 64) c.index.result.now (Some c.in-Some.page) c.self.view_is
    c.requires.within c.index.ensures c.in-Some.is in
    c.get.ensures ∙ ap (λ (page : Page). cell_in page (c.args.e % 64)) c.deref.ensures ∙ sym (at.cells c.args.e refl)

-- the page isn't placed
unplaced : (c : In_default) → Reads c.self.inside.table.items c.args.self.now (c.args.e / 64) None
unplaced c = reads c.self.inside c.args.self.now (c.args.e / 64) c.index.result.now None c.self.view_is
    c.requires.within
    c.index.ensures c.in_default.is

pub place-requires-clause-spare : goal.place-requires-clause-spare
place-requires-clause-spare c =
    let at = unplaced (goal.at.place-requires-clause-spare c).In_default in
    let view = c.self.view_is in
    let left = some_left c.self.inside.order.keys c.self.inside.placed (c.args.e / 64)
    (c.self.invariant.all (c.args.e / 64) at.within)
    (sym (c.self.invariant.placed (c.args.e / 64) at.within) ∙ ap is_some at.was) in
    let total = ap total_of view in
    let all = length-map c.self.inside.table.items cells_of in
    let ordered = ap (λ (v : PlacedPages). length v.order) view in
    let taken = length-take c.self.inside.placed c.self.inside.order.keys in
    let spare = ap (λ (v : PlacedPages). v.spare) view in
    omega (arith, left, c.requires.spare, total, all, ordered, taken, c.self.invariant.numbers, spare)

pub returns-clause-cell : goal.returns-clause-cell
returns-clause-cell c =
    let at = unplaced (goal.at.returns-clause-cell c).In_default in
    sym (at.cells c.args.e refl)
