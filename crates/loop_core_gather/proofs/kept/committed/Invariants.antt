use Rattle.loop_core_gather.proofs.ChoiceLaws.{KeptSoFar}
use Rattle.loop_core_gather.proofs.kept.committed.Given as goal

-- the value so far, with what is left
abbrev pub invariant-loop-i : goal.invariant-loop-i
invariant-loop-i l = KeptSoFar l.reduced l.e l.blocks l.places l.word l.value l.i
