use Rattle.std.proofs.Common.{refl, sym, ◌∙◌}
use Rattle.private_copy.{specs.Cells.{mixed_cell}, proofs.PageCells.{same_parts}}
use Rattle.private_copy.proofs.private.Private.mark_mixed.Goals as goal

pub returns-in-Mixed : goal.returns-in-Mixed
returns-in-Mixed c = record {
  start = refl;
  cell = sym c.requires.cell ∙ same_parts c.args.cell (mixed_cell c.args.cell) refl refl refl c.in-Mixed.is;
  others = λ other differs. refl;
  pages = refl;
  flags = refl;
  serves = refl;
  begun = refl;
  under_way = refl;
}

pub returns : goal.returns
returns c = record {
  start = refl;
  cell = rw c.requires.cell c.mark_mixed.ensures.here;
  others = c.mark_mixed.ensures.others;
  pages = c.mark_mixed.ensures.order;
  flags = refl;
  serves = refl;
  begun = refl;
  under_way = refl;
}
