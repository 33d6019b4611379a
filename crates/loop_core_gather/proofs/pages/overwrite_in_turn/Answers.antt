use Rattle.std.proofs.Common.{◌≡◌, ◌+◌, ◌*◌, ◌<◌, sym, ◌∙◌, false, length, get_or, arith}
use Rattle.std.specs.Prelude.{slice_index}
use Rattle.loop_core_block.specs.Shown.{shown}
use Rattle.loop_core_gather.proofs.ChoiceLaws.{kept_next, kept_still}
use Rattle.loop_core_gather.proofs.pages.overwrite_in_turn.Goals.{then-has_bit, else-has_bit}
use Rattle.loop_core_gather.proofs.pages.overwrite_in_turn.Goals as goal

pub overwrite-requires-clause-there : goal.overwrite-requires-clause-there
overwrite-requires-clause-there c =
    let inside : c.loop-i.i < length c.args.places.now = omega arith in
    let long : length (shown c.index-blocks-place.result).copy.start ≡ c.args.elements =
    rw c.index-blocks-place.is (c.requires.starts (get_or c.args.places.now c.loop-i.i 0) c.index-blocks-place.result
    (c.requires.places c.loop-i.i 0 inside)) in
    omega (arith, long, c.requires.there)

pub overwrite-requires-clause-within : goal.overwrite-requires-clause-within
overwrite-requires-clause-within c =
    let inside : c.loop-i.i < length c.args.places.now = omega arith in
    let long : length (shown c.index-blocks-place.result).copy.start ≡ c.args.elements =
    rw c.index-blocks-place.is (c.requires.starts (get_or c.args.places.now c.loop-i.i 0) c.index-blocks-place.result
    (c.requires.places c.loop-i.i 0 inside)) in
    omega (arith, long, c.requires.there)

pub loop-i-preserved : goal.loop-i-preserved
loop-i-preserved c =
    let inside : c.loop-i.i < length c.args.places.now = omega arith in
    elim c.if-has_bit.branch [
      | then-has_bit w ↦ rw w.own-is (record {
        each = λ k below there. kept_next false (c.args.page * 64 + k) c.args.blocks.now c.args.places.now
            (slice_index c.args.own.now k) (slice_index c.loop-i.own k) c.loop-i.i w.index-blocks-place.result _
            inside (c.requires.places c.loop-i.i 0 inside) w.index-blocks-place.is
            (w.overwrite.ensures.inside k (omega arith)) (c.loop-i.invariant.each k below there);
        past = λ k out. w.overwrite.ensures.past k (omega arith) ∙ c.loop-i.invariant.past k out;
      })
      | else-has_bit w ↦ rw w.own-is (record {
        each = λ k below there. kept_still false (c.args.page * 64 + k) c.args.blocks.now c.args.places.now
            (slice_index c.args.own.now k) (slice_index c.loop-i.own k) c.loop-i.i c.args.touched
            (c.requires.touched k below there) inside (c.requires.places c.loop-i.i 0 inside)
            (sym c.has_bit.ensures ∙ w.if-has_bit.false) (c.loop-i.invariant.each k below there);
        past = c.loop-i.invariant.past;
      })
    ]
