use Rattle.std.proofs.Common.{rules, get_or-set_same, get_or-set_other}
use Rattle.private_copy.{specs.declared.page.Combining.TheVariants.{Untouched}, proofs.PageCells.{same_parts}}
use Rattle.private_copy.proofs.page.Page.set.Goals as goal

pub returns-clause-here : goal.returns-clause-here
returns-clause-here c =
    let page = c.args.self.now in
    let at = c.args.at in
    same_parts _ c.args.cell (get_or-set_same page.values at c.args.cell.value 0 (search rules))
    (get_or-set_same page.combined at c.args.cell.combined 0 (search rules))
    (get_or-set_same page.writers at c.args.cell.writer 0 (search rules))
    (get_or-set_same page.combining at c.args.cell.combining Untouched (search rules))

pub returns-clause-others : goal.returns-clause-others
returns-clause-others c k other =
    let page = c.args.self.now in
    let at = c.args.at in
    same_parts _ _ (get_or-set_other page.values at k c.args.cell.value 0 other)
    (get_or-set_other page.combined at k c.args.cell.combined 0 other)
    (get_or-set_other page.writers at k c.args.cell.writer 0 other)
    (get_or-set_other page.combining at k c.args.cell.combining Untouched other)
