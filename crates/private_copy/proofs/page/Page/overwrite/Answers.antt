use Rattle.std.proofs.Common.{rules}
use Rattle.private_copy.{specs.{Cells.{cell_in}, Shown.{last_in}}, proofs.OverwriteLaws.{none_yet, one_more}}
use Rattle.private_copy.proofs.page.Page.overwrite.Goals as goal

pub loop-k-init : goal.loop-k-init
loop-k-init c = none_yet (λ k. last_in (cell_in c.args.self.now k)) c.args.own.now

pub loop-k-preserved : goal.loop-k-preserved
loop-k-preserved c =
    one_more (λ k. last_in (cell_in c.args.self.now k)) c.loop-k.k c.args.own.now c.loop-k.own _ (search rules)
    (search rules) c.loop-k.invariant
