use Rattle.std.proofs.Common.{length, ◌-◌}
use Rattle.lane_planes.{specs.Conflicts.{lrpd_word}, proofs.Writing.{IsWritten}}
use Rattle.lane_planes.proofs.conflict.lrpd_into.Given as goal

abbrev pub invariant-loop-at : goal.invariant-loop-at
invariant-loop-at g l = IsWritten (lrpd_word l.planes) 0 l.at (length l.into) l.fn.into l.into

abbrev pub decreases-loop-at : goal.decreases-loop-at
decreases-loop-at g l = length l.initial.into - l.at

abbrev pub invariant-loop-at-2 : goal.invariant-loop-at-2
invariant-loop-at-2 g l = IsWritten (lrpd_word l.planes) 0 l.at (length l.into) l.fn.into l.into

abbrev pub decreases-loop-at-2 : goal.decreases-loop-at-2
decreases-loop-at-2 g l = length l.initial.into - l.at
