use Rattle.std.proofs.Common.{◌-◌, ◌≤◌}
use Rattle.shadow_marks.specs.Standing.{words_for}
use Rattle.lane_planes.proofs.touching.touched_up_to.Given as goal

abbrev pub invariant-loop-past : goal.invariant-loop-past
invariant-loop-past l = record {
  order : l.page ≤ l.past;
  within : l.past ≤ words_for l.planes.elements;
}

abbrev pub decreases-loop-past : goal.decreases-loop-past
decreases-loop-past l = words_for l.planes.elements - l.past
