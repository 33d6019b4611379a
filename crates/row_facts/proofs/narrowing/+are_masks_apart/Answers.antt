use Rattle.std.proofs.Common.{Option, Some, sym, ap, ◌∙◌}
use Rattle.row_list.specs.declared.row_op.RowOp.{RowOp}
use Rattle.row_facts.proofs.NarrowLaws.{apart_without}
use Rattle.row_facts.proofs.narrowing.+are_masks_apart.Goals as goal

pub returns-in-Some-Without : goal.returns-in-Some-Without
returns-in-Some-Without t c is = apart_without c.args.list.now c.args.one c.args.other _ c.in-Some-Without.without
    (sym c.in-Some-Without.ensures ∙ ap (λ (o : RowOp). let r : Option RowOp = Some o in r) c.in-Some-Without.field-0-is)
    (c.is_narrower.ensures c.if-is_narrower.true)
