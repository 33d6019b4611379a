use Rattle.std.proofs.{Common.{◌%◌, ◌^◌, ◌<◌, length-set, arith}, lemmas.Nat.{pow_below}}
use Rattle.shadow_marks.proofs.BitLaws.{bit_set}
use Rattle.loop_marks.proofs.by_site.set_bit.Goals as goal

pub returns : goal.returns
returns c =
    let less : 2 ^ (c.args.e % 64) < 2 ^ 64 = pow_below (c.args.e % 64) 64 (omega arith) in
    record {
      count = length-set _ _ _;
      bits = λ k. bit_set c.args.words.now c.args.e _ k (omega (arith, c.requires)) (omega (arith, less));
    }
