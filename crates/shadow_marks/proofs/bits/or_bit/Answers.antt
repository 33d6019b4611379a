use Rattle.std.proofs.Common.{◌&&◌, ◌||◌, Bool, eqb, ◌∙◌, sym, ap, length-set}
use Rattle.loop_core_model.specs.Planes.{bit_of}
use Rattle.shadow_marks.proofs.BitLaws.{bit_set}
use Rattle.shadow_marks.proofs.bits.or_bit.Goals as goal

pub returns-then-not-is_set : goal.returns-then-not-is_set
returns-then-not-is_set c = record {
  count = length-set _ _ _;
  bits = λ k.
      bit_set c.args.words.now c.args.e c.mask.result k c.requires c.mask.ensures
      ∙ sym (ap (λ (bit : Bool). bit_of c.args.words.now k || (bit && eqb k c.args.e)) c.if-bit.true);
}
