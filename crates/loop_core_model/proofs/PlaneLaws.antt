-- A plane has just the elements that pass.
use Rattle.std.proofs.Common.{◌≡◌, ℕ, zero, suc, ◌+◌, ◌-◌, ◌*◌, ◌≤◌, ◌<◌, Bool, false, [], ◌++◌, length, refl, ◌∙◌}
use Rattle.std.{proofs.Common.{ap, arith}, specs.{List.{filter, range_with_len}}}
use Rattle.std.proofs.lemmas.List.{append-nil, Elements.{filter-append}}
use Rattle.loop_core_model.specs.Planes.{bit_of, PlaneHasElements}

pub range-append : (from few more : ℕ) → range_with_len from (few + more) ≡ range_with_len from few
    ++ range_with_len (from + few) more
range-append from zero more =
    let none : zero + more ≡ more = omega arith in
    let here : from + zero ≡ from = omega arith in
    rw (none, here) refl
range-append from (suc few) more =
    let one_more : suc few + more ≡ suc (few + more) = omega arith in
    let there : from + 1 + few ≡ from + suc few = omega arith in
    rw (one_more, range-append (from + 1) few more, there) refl

pub filter-same : (p q : ℕ → Bool) (from count : ℕ) → ((e : ℕ) → from ≤ e → e < from + count → p e ≡ q e)
    → filter p (range_with_len from count) ≡ filter q (range_with_len from count)
filter-same p q from zero same = refl
filter-same p q from (suc count) same =
    rw (
      same from (omega arith) (omega arith),
      filter-same p q (from + 1) count (λ e low high. same e (omega arith) (omega arith)),
    ) refl

pub filter-none : (p : ℕ → Bool) (from count : ℕ) → ((e : ℕ) → from ≤ e → e < from + count → p e ≡ false)
    → filter p (range_with_len from count) ≡ []
filter-none p from zero none = refl
filter-none p from (suc count) none =
    rw (none from (omega arith) (omega arith))
    (filter-none p (from + 1) count (λ e low high. none e (omega arith) (omega arith)))

split_plane : (p test : ℕ → Bool) (elements all : ℕ) → elements ≤ all → ((e : ℕ) → e < elements → p e ≡ test e)
    → ((e : ℕ) → elements ≤ e → e < all → p e ≡ false) →
    filter p (range_with_len 0 all) ≡ filter test (range_with_len 0 elements)
split_plane p test elements all within same none =
    let parts : all ≡ elements + (all - elements) = omega arith in
    let from_zero : 0 + elements ≡ elements = omega arith in
    ap (λ n. filter p (range_with_len 0 n)) parts
    ∙ ap (filter p) (range-append 0 elements (all - elements))
    ∙ filter-append p (range_with_len 0 elements) (range_with_len (0 + elements) (all - elements))
    ∙ ap (λ rest. filter p (range_with_len 0 elements) ++ rest) (filter-none p (0 + elements) (all - elements)
    (λ e low high. none e (omega arith) (omega arith)))
    ∙ append-nil (filter p (range_with_len 0 elements))
    ∙ filter-same p test 0 elements (λ e low high. same e (omega arith))

pub plane_has_elements : PlaneHasElements
plane_has_elements words test elements within same none = split_plane (bit_of words) test elements (64 * length words)
    within same none
