use Rattle.array_maps.specs.declared.access.Op.TheVariants.{Add, Or, And, Xor, AddH}
use Rattle.shadow_marks.proofs.FoldLaws.{nothing_ended}
use Rattle.shadow_marks.proofs.planes.Planes.try_new.Goals as goal

pub returns-clause-none : goal.returns-clause-none
returns-clause-none c =
    nothing_ended _ c.in_ok-bit_plane.ensures
    (elim [
      | Add ↦ c.in_ok-bit_plane-2.ensures
      | Or ↦ c.in_ok-bit_plane-3.ensures
      | And ↦ c.in_ok-bit_plane-4.ensures
      | Xor ↦ c.in_ok-bit_plane-5.ensures
      | AddH ↦ c.in_ok-bit_plane-6.ensures
    ])
    c.in_ok-tested_planes.ensures.whole c.in_ok-tested_planes.ensures.none
