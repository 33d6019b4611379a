-- Each part is a lemma of SpanLaws.
use Rattle.value_range.proofs.SpanLaws.{exact-span, exact-contains, top-span, top-contains, norm-span, norm-some}
use Rattle.value_range.proofs.SpanLaws.{norm-contains, join-span, join-first, join-second}
use Rattle.value_range.proofs.laws.span_law.Goals as goal

pub returns : goal.returns
returns c = record {
  exact_is_span = exact-span;
  exact_contains = exact-contains;
  top_is_span = top-span;
  top_contains = top-contains;
  norm_is_span = λ lo hi zeros x bits word above below multiple.
      norm-span lo hi zeros bits word (norm-some lo hi zeros x above below multiple);
  norm_contains = norm-contains;
  join_is_span = join-span;
  join_contains_first = join-first;
  join_contains_second = join-second;
}
