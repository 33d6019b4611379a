use Rattle.std.proofs.Common.{◌≡◌, ◌<◌, ◌++◌, map, length, take, drop, Some, ◌∙◌, ap, arith}
use Rattle.std.proofs.{Math.Seq.{take-append_seam}, lemmas.List.{length-map, Elements.{All-map}}}
use Rattle.std.specs.List.{All}
use Rattle.loop_core_block.specs.{Ran.{RecordsRun}, Shown.{shown}}
use Rattle.loop_core_gather.specs.Held.{AreInOne, HaveCopiesOf}
use Rattle.loop_core_gather.proofs.CopyLaws.{words_same, held_same}
use Rattle.loop_core_gather.proofs.OutcomeLaws.{AreCounted, faulty, faultless, within, answer_within, are_held}
use Rattle.loop_core_gather.proofs.OutcomeLaws.{has_outcome}
use Rattle.loop_core_gather.proofs.gathering.gather.Goals.{In-Ok, In_ok-planes}
use Rattle.loop_core_gather.proofs.gathering.gather.Goals as goal

pub returns-in-Err-clause-fault : goal.returns-in-Err-clause-fault
returns-in-Err-clause-fault c fault is =
    let same : c.in-Err.fault ≡ fault = cc in
    faulty c.args.test c.args.program.now c.args.call.now c.args.start.now.words c.args.split.now
    (map shown c.args.blocks.items) c.in-Err.fault
    (All-map (RecordsRun c.args.test c.args.program.now c.args.call.now c.args.start.now.words) shown
    c.args.blocks.items c.requires.ran)
    (rw c.deref.ensures.value at c.in-Err.ensures.fault)
    ∙ ap Some same

-- what is known of the blocks that count
counted : (c : In-Ok) → AreCounted c.args.test c.args.program.now c.args.call.now c.args.start.now.words
    c.args.split.now (map shown c.args.blocks.items) c.in-Ok.counting.least c.in-Ok.counting.places.items
counted c = record {
  split = c.requires.split;
  ran = All-map (RecordsRun c.args.test c.args.program.now c.args.call.now c.args.start.now.words) shown
      c.args.blocks.items c.requires.ran;
  counts = rw c.deref.ensures.value at c.in-Ok.ensures.counts;
}

places : (c : In-Ok) → All (λ place. place < length c.args.blocks.items) c.in-Ok.counting.places.items
places c = rw length-map at (within (counted c))

pub planes_in_one-requires-clause-places : goal.planes_in_one-requires-clause-places
planes_in_one-requires-clause-places c = rw (c.as_mut_slice.ensures.value, c.deref-4.ensures.0)
    (places (goal.at.planes_in_one-requires-clause-places c).In-Ok)

pub counted-requires : goal.counted-requires
counted-requires c = rw c.n.ensures (answer_within (counted (goal.at.counted-requires c).In-Ok))

pub touched_pages-requires-clause-places : goal.touched_pages-requires-clause-places
touched_pages-requires-clause-places c = rw (c.deref-2.ensures.value, c.deref-3.ensures.0)
    (places (goal.at.touched_pages-requires-clause-places c).In-Ok)

pub conflict_plane-requires-clause-stand : goal.conflict_plane-requires-clause-stand
conflict_plane-requires-clause-stand c = c.in_ok-planes.ensures.in_one.stand

pub conflict_plane-requires-clause-few : goal.conflict_plane-requires-clause-few
conflict_plane-requires-clause-few c =
    let count = c.in_ok-planes.ensures.in_one.count in
    let few = c.words-words.ensures.limits in
    omega (arith, count, few)

-- the planes are those of these blocks in one
in_one : (c : In_ok-planes) → AreInOne (length c.args.start.now.words) c.args.test (map shown c.args.blocks.items)
    c.in-Ok.counting.places.items c.in_ok-planes.planes
in_one c = rw (c.words-words.ensures.words, c.as_mut_slice.ensures.value, c.deref-4.ensures.0) at
    c.in_ok-planes.ensures.in_one

-- the blocks have the copies that they had
same_copies : (c : In_ok-planes) → HaveCopiesOf (map shown c.args.blocks.items) (map shown (take c.args.blocks.len
    (c.planes_in_one.new.blocks ++ drop (length c.planes_in_one.new.blocks) c.args.blocks.items)))
same_copies c =
    let long : c.args.blocks.len ≡ length c.planes_in_one.new.blocks = omega (arith, c.as_mut_slice.ensures.len) in
    rw (long, take-append_seam) (rw c.as_mut_slice.ensures.value at c.planes_in_one.ensures.copies)

pub invariant_of-result : goal.invariant_of-result
invariant_of-result c =
    let at = goal.at.invariant_of-result c in
    rw c.words-words.ensures.words (held_same (map shown c.args.blocks.items) _ (same_copies at.In_ok-planes)
    (length c.args.start.now.words) c.in-Ok.counting.places.items c.in_ok-planes.planes c.in_ok-touched.touched.items
    (are_held (counted at.In-Ok) c.in_ok-planes.planes (in_one at.In_ok-planes) c.in_ok-touched.touched.items
    (rw c.words-words.ensures.words at c.words-words.ensures.limits)
    (rw c.words-words.ensures.words at c.in_ok-touched.ensures.pages)
    (rw (c.deref-2.ensures.value, c.deref-3.ensures.0) at c.in_ok-touched.ensures.marked)))

pub returns-clause-faultless : goal.returns-clause-faultless
returns-clause-faultless c = faultless (counted (goal.at.returns-clause-faultless c).In-Ok)

pub returns-clause-outcome : goal.returns-clause-outcome
returns-clause-outcome c =
    let at = goal.at.returns-clause-outcome c in
    rw (
      words_same (map shown c.args.blocks.items) _ (same_copies at.In_ok-planes) c.in_ok-planes.planes
          c.in-Ok.counting.places.items c.words-words.result.now,
      c.words-words.ensures.words,
      c.verdict_of.ensures,
      c.deref-5.ensures.value,
      c.counted.ensures,
      c.n.ensures,
    )
    (has_outcome (counted at.In-Ok) c.in_ok-planes.planes (in_one at.In_ok-planes)
    c.in_ok-conflicting.conflicting.items c.in_ok-conflicting.ensures.words c.in_ok-conflicting.ensures.elements)
