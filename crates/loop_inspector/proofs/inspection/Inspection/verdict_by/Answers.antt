use Rattle.std.{proofs.Common.{ℕ, Bool}, specs.List.{range_with_len}}
use Rattle.loop_core_model.specs.{Marks.{marked_conflict, marks_of}, Planes.{bit_of}}
use Rattle.shadow_marks.specs.Standing.{test_of}
use Rattle.loop_inspector.proofs.Bits.{filter_both}
use Rattle.loop_inspector.proofs.inspection.Inspection.verdict_by.Goals as goal

pub returns : goal.returns
returns c visits stand =
    let planes = c.args.marks.now.planes in
    let marked : ℕ → Bool = λ e. marked_conflict (test_of planes.tested) (marks_of (visits e)) in
    rw (
      c.as_slice.ensures.value,
      c.as_mut_slice.ensures.value,
      c.in_ok-conflicts.ensures.elements visits stand,
      ← filter_both marked (bit_of c.args.self.now.plane.items) (range_with_len 0 planes.elements),
    ) at c.judge_at.ensures
