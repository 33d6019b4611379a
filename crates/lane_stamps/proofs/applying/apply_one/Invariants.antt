use Rattle.std.proofs.Common.{◌≡◌, set}
use Rattle.lane_stamps.specs.Applying.{words_after}
use Rattle.lane_stamps.proofs.applying.apply_one.Given as goal

abbrev pub invariant-loop-lane : goal.invariant-loop-lane
invariant-loop-lane l = set l.fn.words l.at l.word ≡ words_after l.kind l.to l.values l.lane l.fn.words
