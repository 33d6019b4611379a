use Rattle.std.proofs.Common.{◌≡◌, ◌-◌, ◌<◌, ◌≤◌}
use Rattle.loop_core_model.specs.declared.loop_test.Test.TheVariants.{Flow}
use Rattle.shadow_marks.specs.Standing.{test_of}
use Rattle.loop_inspector.specs.Inspections.{AreInspected}
use Rattle.loop_inspector.proofs.inspection.Inspection.verdict.Given as goal

abbrev pub invariant-loop-index : goal.invariant-loop-index
invariant-loop-index l = record {
  within : l.index ≤ l.n;
  ahead : l.index < l.look;
  elements : l.marks.planes.elements ≡ l.fn.marks.planes.elements;
  test : test_of l.marks.planes.tested ≡ Flow;
  marked : AreInspected l.program l.call l.maps.words l.self.plane.items l.index l.marks.planes;
}

abbrev pub decreases-loop-index : goal.decreases-loop-index
decreases-loop-index l = l.n - l.index
