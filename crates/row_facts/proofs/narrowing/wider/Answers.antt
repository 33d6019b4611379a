use Rattle.std.proofs.Common.{Option, Some, sym, ap, ◌∙◌}
use Rattle.row_list.specs.declared.row_op.RowOp.{RowOp}
use Rattle.row_facts.proofs.NarrowLaws.{holds_narrower, without_narrower}
use Rattle.row_facts.proofs.narrowing.wider.Goals as goal

pub returns-in-Some-Holds : goal.returns-in-Some-Holds
returns-in-Some-Holds c = holds_narrower c.args.list.now c.args.mask c.in-Some-Holds.other _ _ _ _
    (sym c.in-Some-Holds.ensures ∙ ap (λ (o : RowOp). let r : Option RowOp = Some o in r) c.in-Some-Holds.field-0-is)

pub returns-in-Some-Without : goal.returns-in-Some-Without
returns-in-Some-Without c = without_narrower c.args.list.now c.args.mask c.in-Some-Without.other _
    (sym c.in-Some-Without.ensures ∙ ap (λ (o : RowOp). let r : Option RowOp = Some o in r) c.in-Some-Without.field-0-is)
