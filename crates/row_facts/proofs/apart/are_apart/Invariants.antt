use Rattle.std.proofs.Common.{ℕ, ◌<◌, ◌≤◌}
use Rattle.row_facts.specs.Apart.{AreLinesApart}
use Rattle.row_facts.proofs.apart.are_apart.Given as goal

abbrev pub invariant-loop-distance : goal.invariant-loop-distance
invariant-loop-distance l = (distance : ℕ) → l.from ≤ distance → distance < l.distance →
    AreLinesApart l.first.line l.first_size l.second.line l.second_size distance
