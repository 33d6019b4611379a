use Rattle.lane_stamps.proofs.covering.is_loaded.Given as goal

abbrev pub invariant-loop-by : goal.invariant-loop-by
invariant-loop-by l = Unit {0}
