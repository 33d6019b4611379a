use Rattle.std.proofs.Common.{◌-◌, ◌≤◌}
use Rattle.shadow_marks.specs.Standing.{words_for}
use Rattle.lane_planes.specs.Merged.{MergedPages}
use Rattle.lane_planes.proofs.touching.merge_touched.Given as goal

-- the pages below one are merged
abbrev pub invariant-loop-page : goal.invariant-loop-page
invariant-loop-page g l = record {
  within : l.page ≤ words_for l.from.elements;
  words : MergedPages 0 l.page l.fn.into l.from l.into;
}

abbrev pub decreases-loop-page : goal.decreases-loop-page
decreases-loop-page g l = words_for l.from.elements - l.page
