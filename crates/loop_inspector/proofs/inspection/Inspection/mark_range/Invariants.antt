use Rattle.std.proofs.Common.{◌≡◌, ◌-◌, ◌≤◌}
use Rattle.shadow_marks.specs.Standing.{test_of}
use Rattle.loop_inspector.specs.Inspections.{AreInspected}
use Rattle.loop_inspector.proofs.inspection.Inspection.mark_range.Given as goal

abbrev pub invariant-loop-index : goal.invariant-loop-index
invariant-loop-index l = record {
  rising : l.index ≤ l.to;
  elements : l.marks.planes.elements ≡ l.fn.marks.planes.elements;
  test : test_of l.marks.planes.tested ≡ test_of l.fn.marks.planes.tested;
  marked : AreInspected l.program l.call l.maps.words l.self.plane.items l.index l.marks.planes;
}

abbrev pub decreases-loop-index : goal.decreases-loop-index
decreases-loop-index l = l.to - l.index
