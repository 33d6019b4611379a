use Rattle.std.{proofs.Common.{◌≡◌, take}, specs.List.{sum}}
use Rattle.array_maps.proofs.maps.sum_of.Given as goal

abbrev pub invariant-loop-size : goal.invariant-loop-size
invariant-loop-size l = l.total ≡ sum (take l.size-index l.sizes)
