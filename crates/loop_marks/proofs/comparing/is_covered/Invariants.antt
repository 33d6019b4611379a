use Rattle.loop_marks.proofs.comparing.is_covered.Given as goal

abbrev pub invariant-loop-other : goal.invariant-loop-other
invariant-loop-other l = Unit {0}
