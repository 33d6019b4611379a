use Rattle.std.proofs.Common.{map}
use Rattle.loop_core_block.specs.Shown.{shown}
use Rattle.loop_core_gather.proofs.MergingLaws.{MergedSoFar}
use Rattle.loop_core_gather.proofs.merged.planes_in_one.Given as goal

abbrev pub invariant-loop-place : goal.invariant-loop-place
invariant-loop-place l = MergedSoFar l.fn.elements l.fn.test (map shown l.blocks) l.places l.planes l.place-index
