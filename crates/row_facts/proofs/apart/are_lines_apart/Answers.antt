use Rattle.std.proofs.{Common.{◌≡◌, ◌∙◌, ℕ, ◌+◌, ◌-◌, ◌*◌, ◌%◌, ◌^◌, ◌≤◌, sym, ap, arith}, lemmas.Bool.{leb-true}}
use Rattle.std.proofs.lemmas.Nat.{pow_pos}
use Rattle.row_facts.proofs.{ApartLaws.{ahead, apart}, Congruence.{coarse, wraps}}
use Rattle.row_facts.proofs.apart.are_lines_apart.Goals as goal

pub returns-then-low-second_size : goal.returns-then-low-second_size
returns-then-low-second_size c is =
    let b = c.min-bits.result in
    let one = c.args.first in
    let two = c.args.second in
    let d = c.args.distance in
    let a = ((one.scale * d % 2 ^ 64 + one.offset) % 2 ^ 64 + (2 ^ 64 - two.offset)) % 2 ^ 64 in
    let n = c.wrapping_neg.result in
    let few : b ≤ 64 = omega (arith, c.common_bits.ensures.few) in
    let zero : 0 % 2 ^ b ≡ 0 = omega (arith, pow_pos b) in
    let negative : (n + a) % 2 ^ b ≡ 0 =
    sym (wraps b (n + a) few) ∙ ap (λ (k : ℕ). k % 2 ^ b) c.wrapping_neg.ensures ∙ zero in
    let scales : one.scale % 2 ^ b ≡ two.scale % 2 ^ b =
    coarse b c.common_bits.result one.scale two.scale (omega arith) c.common_bits.ensures.same in
    record {
      never = λ index x y half first second touch touched.
          apart (2 ^ b) a n c.args.first_size c.args.second_size x y (pow_pos b)
          (ahead b one.bits two.bits one.scale one.offset two.scale two.offset d index x y (omega arith) (omega
          arith) few
          (omega arith) scales first.same second.same)
          negative
          (omega (arith, c.low.ensures few, c.if-low-second_size.true))
          (omega (
            arith,
            c.low-then-low-second_size.ensures few,
            leb-true c.args.first_size
                c.low-then-low-second_size.result is,
          ))
          (omega (arith, touch.from, touched.before)) (omega (arith, touched.from, touch.before));
    }
