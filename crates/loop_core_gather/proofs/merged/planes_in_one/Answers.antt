use Rattle.std.proofs.Common.{◌≡◌, ◌<◌, ◌≤◌, ◌∙◌, map, length, get_or, append_assoc, refl, subst, arith}
use Rattle.std.proofs.lemmas.List.{get_or_default}
use Rattle.shadow_marks.specs.Standing.{StandFor}
use Rattle.lane_planes.specs.Merged.{joined_visits, StandForSome}
use Rattle.loop_core_block.specs.{declared.block.Block.{Block}, Shown.{shown}}
use Rattle.loop_core_gather.proofs.{ChoiceLaws.{chosen_next, all_at}, MergingLaws.{merged_all}}
use Rattle.loop_core_gather.proofs.CopyLaws.{copies_set, one_in_one}
use Rattle.loop_core_gather.proofs.merged.planes_in_one.Goals as goal

pub returns-then-places-eq1-clause-in_one : goal.returns-then-places-eq1-clause-in_one
returns-then-places-eq1-clause-in_one c =
    let b = c.index-blocks-places.result in
    let one : length c.args.places.now ≡ 1 = c.if-places-eq1.true in
    let within = c.requires.places 0 0 (omega arith) in
    rw (c.take_planes.ensures.planes, ← c.index-blocks-places.is) (one_in_one c.args.elements c.args.test
    c.args.blocks.now c.args.places.now b one within c.index-blocks-places.is
    (rw c.index-blocks-places.is (c.requires.planes (get_or c.args.places.now 0 0) b within)))

pub returns-then-places-eq1-clause-copies : goal.returns-then-places-eq1-clause-copies
returns-then-places-eq1-clause-copies c =
    let blocks = c.args.blocks.now in
    let place = get_or c.args.places.now 0 0 in
    let one : length c.args.places.now ≡ 1 = c.if-places-eq1.true in
    let within = c.requires.places 0 0 (omega arith) in
    copies_set blocks place c.take_planes.new.self
    (rw (
      c.take_planes.ensures.rest.copy,
      get_or_default blocks place c.index-blocks-places.result
          c.take_planes.new.self within,
    ) refl)

pub loop-place-preserved : goal.loop-place-preserved
loop-place-preserved c =
    let blocks = c.args.blocks.now in
    let i = c.loop-place.place-index in
    let place = get_or c.args.places.now i 0 in
    let b = c.index-blocks-place.result in
    let so_far = c.loop-place.invariant in
    let inside : c.loop-place.place-index < length c.args.places.now = omega arith in
    let within = c.requires.places i 0 inside in
    let is = chosen_next blocks c.args.places.now i b inside within c.index-blocks-place.is in
    let some : StandForSome (shown (get_or blocks place b)).planes = (c.requires.planes place b within).stand in
    let joins = rw c.planes.ensures at c.merge_touched.ensures.visits in
    record {
      count = c.merge_touched.ensures.shape.elements ∙ so_far.count;
      test_is = c.merge_touched.ensures.shape.test ∙ so_far.test_is;
      stand = record { visits = _; stand = joins so_far.stand.visits some.visits so_far.stand.stand some.stand };
      visits = λ each all. (let held = so_far.visits each all in record {
        before = joined_visits held.before (each (shown b));
        stand = joins held.before (each (shown b)) held.stand
            (subst (λ (other : Block). StandFor (shown other).planes (each (shown b))) c.index-blocks-place.is
            (all_at (λ other. StandFor other.planes (each other)) blocks place b within c.index-blocks-place.is all));
        rest = λ e. rw append_assoc (rw is at (held.rest e));
      });
    }

pub returns-clause-in_one : goal.returns-clause-in_one
returns-clause-in_one c =
    let past : length c.args.places.now ≤ c.loop-place.place-index = omega arith in
    merged_all c.args.elements c.args.test (map shown c.args.blocks.now) c.args.places.now c.loop-place.planes
    c.loop-place.place-index past c.loop-place.invariant
