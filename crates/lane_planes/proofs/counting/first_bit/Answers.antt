use Rattle.std.proofs.Common.{sym, ◌∙◌, arith}
use Rattle.lane_planes.proofs.Counts.{vector_at, vector_passed}
use Rattle.lane_planes.proofs.counting.first_bit.Goals as goal

pub loop-clear-preserved : goal.loop-clear-preserved
loop-clear-preserved g c =
    let here = vector_at g.row.N _ _ _ _ c.as_chunks.ensures.front c.as_chunks.ensures.front_len c.loop-clear-test.true
    c.index-vectors-clear.is in
    record {
      within = omega arith;
      passed = sym (vector_passed _ _ _ _ here (c.is_clear.ensures c.if-is_clear.true)) ∙ c.loop-clear.invariant.passed;
    }
