use Rattle.std.proofs.Common.{◌≡◌, ◌+◌, ◌*◌, drop}
use Rattle.loop_core_model.specs.Planes.{set_bits}
use Rattle.lane_planes.proofs.counting.count_bits.Given as goal

-- what is counted, and what is left
abbrev pub invariant-loop-vector : goal.invariant-loop-vector
invariant-loop-vector g l = l.count + set_bits (drop (l.vector-index * g.row.N) l.words) ≡ set_bits l.words

abbrev pub invariant-loop-word : goal.invariant-loop-word
invariant-loop-word g l = l.count + set_bits (drop l.word-index l.rest) ≡ set_bits l.words
