use Rattle.std.proofs.{Common.{◌<◌, ◌≤◌, ◌^◌, arith}, Math.Pow.{pow_mono}, lemmas.Nat.{pow_below}}
use Rattle.loop_marks.proofs.by_site.bits.Goals as goal

pub overflow_sub-result : goal.overflow_sub-result
overflow_sub-result c =
    let less : 2 ^ c.args.from < 2 ^ c.args.to = pow_below c.args.from c.args.to c.requires.rising in
    let most : 2 ^ c.args.to ≤ 2 ^ 64 = pow_mono c.requires.within in
    omega (arith, less, most)
