use Rattle.std.proofs.{Common.{◌≡◌, ℕ, refl, subst, inl, inr, arith}, lemmas.Bool.{cases_lt}}
use Rattle.row_facts.specs.Apart.{AreLinesApart}
use Rattle.row_facts.proofs.apart.are_apart.Goals as goal

pub returns-then-are_ranges_apart : goal.returns-then-are_ranges_apart
returns-then-are_ranges_apart c is distance from upto = record {
  never = λ index x y half first second one two.
      (c.if-are_ranges_apart.ensures refl).never x y half first.in_range second.in_range one two;
}

pub loop-distance-preserved : goal.loop-distance-preserved
loop-distance-preserved c distance from upto = elim (cases_lt distance c.loop-distance.distance) [
  | inl l ↦ c.loop-distance.invariant distance from l
  | inr l ↦
      let same : c.loop-distance.distance ≡ distance = omega arith in
      subst (λ (d : ℕ). AreLinesApart c.args.first.line c.args.first_size c.args.second.line c.args.second_size d) same
      (c.if-not-are_lines_apart.ensures refl)
]

pub returns : goal.returns
returns c is distance from upto = record {
  never = λ index x y half first second one two.
      (c.loop-distance.invariant distance from (omega (arith, c.loop-distance-test.false))).never index x y half
      first.on_line
      second.on_line one two;
}
