use Rattle.std.proofs.Common.{◌≡◌, length, map}
use Rattle.loop_core_block.specs.Shown.{shown}
use Rattle.loop_core_gather.specs.Touched.{AreMarked}
use Rattle.loop_core_gather.proofs.touched.mark_all.Given as goal

abbrev pub invariant-loop-i : goal.invariant-loop-i
invariant-loop-i l = record {
  count : length l.touched ≡ length l.fn.touched;
  marked : AreMarked (map shown l.blocks) l.places l.i l.touched;
}
