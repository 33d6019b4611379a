use Rattle.private_copy.specs.{Cells.{cell_in}, Shown.{last_in}, Overwriting.{AreOverwritten}}
use Rattle.private_copy.proofs.page.Page.overwrite.Given as goal

abbrev pub invariant-loop-k : goal.invariant-loop-k
invariant-loop-k l = AreOverwritten (λ k. last_in (cell_in l.self k)) l.k l.fn.own l.own
