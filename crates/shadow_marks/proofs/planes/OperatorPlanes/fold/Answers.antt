use Rattle.std.proofs.Common.{refl}
use Rattle.array_maps.specs.declared.access.Op.TheVariants.{Add, Or, And, Xor, AddH}
use Rattle.shadow_marks.proofs.FoldLaws.{nothing_ored}
use Rattle.shadow_marks.proofs.planes.OperatorPlanes.fold.Goals as goal

pub returns-then-not-reduces : goal.returns-then-not-reduces
returns-then-not-reduces c = record {
  add = nothing_ored _ _ _ (c.if-not-reduces.ensures refl Add);
  or = nothing_ored _ _ _ (c.if-not-reduces.ensures refl Or);
  and = nothing_ored _ _ _ (c.if-not-reduces.ensures refl And);
  xor = nothing_ored _ _ _ (c.if-not-reduces.ensures refl Xor);
  addh = nothing_ored _ _ _ (c.if-not-reduces.ensures refl AddH);
}
