use Rattle.std.proofs.Common.{◌≡◌}
use Rattle.lane_stamps.specs.Applying.{words_after}
use Rattle.lane_stamps.proofs.applying.apply_each.Given as goal

abbrev pub invariant-loop-lane : goal.invariant-loop-lane
invariant-loop-lane l = l.words ≡ words_after l.kind l.to l.values l.lane l.fn.words
