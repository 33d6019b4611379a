use Rattle.std.proofs.Common.{◌≡◌, ◌-◌, ◌*◌, ◌≤◌, length, drop}
use Rattle.loop_core_model.specs.Planes.{least_bit}
use Rattle.lane_planes.proofs.counting.first_bit.Given as goal

abbrev pub invariant-loop-clear : goal.invariant-loop-clear
invariant-loop-clear g l = record {
  within : l.clear ≤ length l.vectors;
  passed : least_bit (l.clear * g.row.N) (drop (l.clear * g.row.N) l.words) ≡ least_bit 0 l.words;
}

abbrev pub decreases-loop-clear : goal.decreases-loop-clear
decreases-loop-clear g l = length l.vectors - l.clear

abbrev pub invariant-loop-at : goal.invariant-loop-at
invariant-loop-at g l = least_bit l.at (drop l.at l.words) ≡ least_bit 0 l.words
