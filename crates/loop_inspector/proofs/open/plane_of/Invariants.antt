use Rattle.std.proofs.Common.{◌*◌, ◌≤◌, length, take}
use Rattle.loop_inspector.specs.Open.{IsPlaneOf}
use Rattle.loop_inspector.proofs.open.plane_of.Given as goal

abbrev pub invariant-loop-span : goal.invariant-loop-span
invariant-loop-span l = record {
  room : l.elements ≤ 64 * length l.plane.items;
  plane : IsPlaneOf (take l.span-index l.spans) l.elements l.plane.items;
}
