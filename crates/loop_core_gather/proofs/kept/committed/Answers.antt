use Rattle.std.proofs.Common.{◌<◌, length, sym, ◌∙◌, arith}
use Rattle.loop_core_gather.proofs.ChoiceLaws.{kept_next, kept_still}
use Rattle.loop_core_gather.proofs.kept.committed.Goals.{then-has_bit, else-has_bit}
use Rattle.loop_core_gather.proofs.kept.committed.Goals as goal

pub loop-i-preserved : goal.loop-i-preserved
loop-i-preserved c =
    let inside : c.loop-i.i < length c.args.places.now = omega arith in
    elim c.if-has_bit.branch [
      | then-has_bit w ↦ kept_next c.args.reduced c.args.e c.args.blocks.now c.args.places.now c.args.word
          c.loop-i.value c.loop-i.i w.index-blocks-place.result _ inside (c.requires.places c.loop-i.i 0 inside)
          w.index-blocks-place.is (w.value-is ∙ w.committed_by-value.ensures) c.loop-i.invariant
      | else-has_bit w ↦ rw w.value-is (kept_still c.args.reduced c.args.e c.args.blocks.now c.args.places.now
          c.args.word c.loop-i.value c.loop-i.i c.args.touched c.requires.touched inside
          (c.requires.places c.loop-i.i 0 inside) (sym c.has_bit.ensures ∙ w.if-has_bit.false) c.loop-i.invariant)
    ]
