use Rattle.loop_core_undo.specs.Undo.{is_written}
use Rattle.loop_core_sequential.specs.Watched.{AreUnwritten}
use Rattle.loop_core_sequential.proofs.noting.is_one_written.Given as goal

abbrev pub invariant-loop-lane : goal.invariant-loop-lane
invariant-loop-lane l = AreUnwritten (is_written l.log) l.lane l.halves l.mask l.places
