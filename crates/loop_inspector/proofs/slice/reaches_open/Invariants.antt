use Rattle.std.proofs.Common.{take}
use Rattle.loop_inspector.specs.Slices.{AvoidsOpen}
use Rattle.loop_inspector.proofs.slice.reaches_open.Given as goal

abbrev pub invariant-loop-span : goal.invariant-loop-span
invariant-loop-span l = AvoidsOpen (take l.span-index l.spans) l.site
