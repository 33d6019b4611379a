use Rattle.loop_core_sequential.specs.Noting.{LanesNoted}
use Rattle.loop_core_sequential.proofs.noting.note_each.Given as goal

abbrev pub invariant-loop-lane : goal.invariant-loop-lane
invariant-loop-lane l = LanesNoted l.maps.words l.lane l.halves l.mask l.places l.fn.log l.log
