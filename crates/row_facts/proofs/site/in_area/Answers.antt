use Rattle.std.proofs.{Common.{◌≡◌, ℕ, ◌*◌, ◌/◌, ◌%◌, ◌^◌, subst, arith}, Math.Nat.{mod-eq_of_lt}}
use Rattle.value_range.{specs.Spans.{Contains}, proofs.SpanLaws.{exact-contains}}
use Rattle.row_facts.proofs.OperatorLaws.{area-left}
use Rattle.row_facts.proofs.site.in_area.Goals as goal

pub returns-then-hi-area : goal.returns-then-hi-area
returns-then-hi-area c x within =
    let lo = c.lo-area.result in
    let hi = c.hi.result in
    let n = lo / 2 ^ 32 * 2 ^ 32 % 2 ^ 64 in
    let whole : n ≡ lo / 2 ^ 32 * 2 ^ 32 =
    mod-eq_of_lt (omega (
      arith,
      within.above,
      within.below,
      c.lo-area.ensures.number,
      c.lo-area.ensures.span.word,
      c.lo-area.ensures.span.ordered,
    )) in
    subst (λ (k : ℕ). Contains c.alu.result k)
    (area-left lo hi x n (omega (arith, within.above, c.lo-area.ensures.number)) (omega (
      arith,
      within.below,
      c.hi.ensures.number,
    ))
    (omega (arith, c.hi.ensures.span.word, c.hi.ensures.number)) c.if-hi-area.true whole)
    (c.alu.ensures.contains x n within (rw c.exact.ensures (exact-contains n)))
