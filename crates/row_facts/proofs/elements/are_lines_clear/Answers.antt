use Rattle.std.proofs.{Common.{◌≡◌, ◌∙◌, ℕ, ◌+◌, ◌-◌, ◌*◌, ◌%◌, ◌^◌, ◌<◌, ◌≤◌, subst, ap, arith}, lemmas.Nat.{one_shl}}
use Rattle.row_facts.proofs.{Congruence.{coarse}, ApartLaws.{stays_ahead}}
use Rattle.row_facts.proofs.elements.are_lines_clear.Goals as goal

pub returns : goal.returns
returns c is =
    let b = c.min-bits.result in
    let one = c.args.first in
    let two = c.args.second in
    let from = c.args.from in
    let count = c.saturating_sub-count.result in
    let a = ((one.scale * from % 2 ^ 64 + one.offset) % 2 ^ 64 + (2 ^ 64 - two.offset)) % 2 ^ 64 in
    let small : b ≤ 32 = omega arith in
    let few : b ≤ 64 = omega (arith, small) in
    let less : b < 64 = omega (arith, small) in
    let scales : one.scale % 2 ^ b ≡ two.scale % 2 ^ b =
    coarse b c.common_bits.result one.scale two.scale (omega arith) c.common_bits.ensures.same in
    let clear = c.stays_clear.ensures is in
    let begins : 8 ≤ a % 2 ^ b = subst (λ (n : ℕ). 8 ≤ n) (c.low.ensures few) clear.0 in
    let ends : a % 2 ^ b + one.scale % 2 ^ b * count + 8 ≤ 2 ^ b =
    subst (λ (n : ℕ). a % 2 ^ b + n * count + 8 ≤ 2 ^ b) (c.low-2.ensures few)
    (subst (λ (n : ℕ). n + c.low-2.result * count + 8 ≤ 2 ^ b) (c.low.ensures few)
    (subst (λ (m : ℕ). c.low.result + c.low-2.result * count + 8 ≤ m) (one_shl b 64 less) clear.1)) in
    record {
      never = λ index later x y after below first second same.
          let more = later - index - from in
          let there : later ≡ index + (from + more) = omega (arith, after) in
          stays_ahead b one.bits two.bits one.scale one.offset two.scale two.offset from count index more x y (omega arith)
          (omega arith) few (omega arith) scales begins ends (omega (arith, after, below, c.saturating_sub-count.ensures))
          (first.same ∙ ap (λ (i : ℕ). (one.scale * i + one.offset) % 2 ^ one.bits) there) second.same same;
    }
