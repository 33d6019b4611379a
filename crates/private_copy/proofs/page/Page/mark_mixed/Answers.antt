use Rattle.std.proofs.Common.{rules, refl, get_or-set_same, get_or-set_other}
use Rattle.private_copy.{specs.declared.page.Combining.TheVariants.{Untouched, Mixed}, proofs.PageCells.{same_parts}}
use Rattle.private_copy.proofs.page.Page.mark_mixed.Goals as goal

pub returns-clause-here : goal.returns-clause-here
returns-clause-here c =
    same_parts _ _ refl refl refl
    (get_or-set_same c.args.self.now.combining c.args.at Mixed Untouched (search rules))

pub returns-clause-others : goal.returns-clause-others
returns-clause-others c k other =
    same_parts _ _ refl refl refl (get_or-set_other c.args.self.now.combining c.args.at k Mixed Untouched other)
