use Rattle.std.{proofs.{Common.{bit_and, bit_or, w64}, lemmas.Nat.{or_lt}}, specs.Int.{bit_not}}
use Rattle.lane_planes.proofs.{Lanes.{combined, turned}, Writing.{writes_lanes}}
use Rattle.lane_planes.proofs.conflict.clear_reductions_at.Goals as goal

pub returns-clause-words : goal.returns-clause-words
returns-clause-words g c =
    let plain = rw c.as_slice.ensures.value at c.words_at-plain.ensures.lanes in
    let add = rw c.as_slice-2.ensures.value at c.words_at-add.ensures.lanes in
    let or = rw c.as_slice-3.ensures.value at c.words_at-or.ensures.lanes in
    let and = rw c.as_slice-4.ensures.value at c.words_at-and.ensures.lanes in
    let xor = rw c.as_slice-5.ensures.value at c.words_at-xor.ensures.lanes in
    let addh = rw c.as_slice-6.ensures.value at c.words_at-addh.ensures.lanes in
    let some_2 = combined bit_or add or in
    let some_3 = combined bit_or some_2 and in
    let some_4 = combined bit_or some_3 xor in
    let two_3 = combined bit_or (combined bit_and add or) (combined bit_and some_2 and) in
    let two_4 = combined bit_or two_3 (combined bit_and some_3 xor) in
    let two_5 = combined bit_or two_4 (combined bit_and some_4 addh) in
    let none = turned (bit_not w64) (combined bit_or some_4 addh) in
    writes_lanes _ c.args.at g.row.N _ _ c.requires.room
    (combined bit_and c.words_at-here.ensures.lanes (combined bit_or (combined bit_or plain two_5) none))

pub returns-clause-fit : goal.returns-clause-fit
returns-clause-fit g c i small =
    let add = rw c.as_slice-2.ensures.value at c.words_at-add.ensures.fit in
    let or = rw c.as_slice-3.ensures.value at c.words_at-or.ensures.fit in
    let and = rw c.as_slice-4.ensures.value at c.words_at-and.ensures.fit in
    let xor = rw c.as_slice-5.ensures.value at c.words_at-xor.ensures.fit in
    let addh = rw c.as_slice-6.ensures.value at c.words_at-addh.ensures.fit in
    or_lt 64 _ _ (or_lt 64 _ _ (or_lt 64 _ _ (or_lt 64 _ _ (add i) (or i)) (and i)) (xor i)) (addh i)
