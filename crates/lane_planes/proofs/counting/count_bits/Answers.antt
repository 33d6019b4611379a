use Rattle.std.proofs.Common.{arith}
use Rattle.lane_planes.proofs.Counts.{vector_at, vector_fits, word_counted, few_bits}
use Rattle.lane_planes.proofs.counting.count_bits.Goals as goal

pub ones_in-count-requires : goal.ones_in-count-requires
ones_in-count-requires g c =
    let here = vector_at g.row.N _ _ _ _ c.as_chunks.ensures.front c.as_chunks.ensures.front_len c.loop-vector-test.true
    c.vector-item.is in
    (omega (arith, c.requires.lanes), (c.requires.lanes.1, vector_fits _ _ _ _ c.type_inv.words here))

pub overflow_add-count : goal.overflow_add-count
overflow_add-count g c =
    let here = vector_at g.row.N _ _ _ _ c.as_chunks.ensures.front c.as_chunks.ensures.front_len c.loop-vector-test.true
    c.vector-item.is in
    let few = few_bits c.args.words.now c.type_inv.words in
    record { fits = omega (arith, c.loop-vector.invariant, c.ones_in-count.ensures, c.requires.few) }

pub loop-vector-preserved : goal.loop-vector-preserved
loop-vector-preserved g c =
    let here = vector_at g.row.N _ _ _ _ c.as_chunks.ensures.front c.as_chunks.ensures.front_len c.loop-vector-test.true
    c.vector-item.is in
    omega (arith, c.loop-vector.invariant, c.ones_in-count.ensures)

pub overflow_add-count-in-loop-word : goal.overflow_add-count-in-loop-word
overflow_add-count-in-loop-word g c =
    let parts = word_counted c.loop-word.word-index c.as_chunks.result.1.now c.loop-word-test.true in
    let few = few_bits c.args.words.now c.type_inv.words in
    record { fits = omega (arith, c.loop-word.invariant, c.requires.few) }
