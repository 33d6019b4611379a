use Rattle.std.proofs.Common.{◌≡◌, drop}
use Rattle.loop_core_model.specs.Split.{falls}
use Rattle.loop_core_split.proofs.split.falls.Given as goal

-- what is left falls below the bound before if the whole does
abbrev pub invariant-loop-bound : goal.invariant-loop-bound
invariant-loop-bound l = falls 0 l.bounds ≡ falls l.before (drop l.bound-index l.bounds)
