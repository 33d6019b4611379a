use Rattle.std.proofs.Common.{◌≡◌, ℕ, ◌+◌, ◌*◌, ◌%◌, ◌^◌, ap, arith}
use Rattle.value_range.proofs.{Multiples.{multiple-zero}, RowBounds.{zero_some}, SpanLaws.{norm-contains}}
use Rattle.row_facts.proofs.transfer.index_fact.Goals as goal

pub norm-requires-clause-some : goal.norm-requires-clause-some
norm-requires-clause-some c = zero_some 0 (2 ^ 23)

pub returns : goal.returns
returns c index few =
    let same : index ≡ 1 * index + 0 = omega arith in
    c.within.ensures index index
    (rw c.norm.ensures (norm-contains 0 (2 ^ 23) 0 index (omega arith) few (multiple-zero index)))
    (record { same = ap (λ (n : ℕ). n % 2 ^ 64) same })
