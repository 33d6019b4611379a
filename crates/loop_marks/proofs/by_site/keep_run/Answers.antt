use Rattle.std.proofs.{Common.{◌≡◌, slice_index, refl, sym, ◌∙◌, inl, inr, arith}, lemmas.Bool.{cases_lt}}
use Rattle.loop_marks.{specs.SiteMarks.{kept}, proofs.OneLaws.{kept_at_end}, proofs.{OverLaws.{over_none}}}
use Rattle.loop_marks.proofs.RunLaws.{gets_outside}
use Rattle.loop_marks.proofs.by_site.keep_run.Goals as goal

pub loop-e-init : goal.loop-e-init
loop-e-init c = record {
  count = refl;
  done = λ k less. (let start = c.element_of-start.ensures in
      sym (over_none (kept c.args.greatest c.args.index) _ c.args.lanes _
      (gets_outside c.args.halves c.args.first c.args.lanes k (inl (omega (arith, less, start))))));
  rest = λ k more. refl;
}

pub loop-e-preserved : goal.loop-e-preserved
loop-e-preserved c =
    let e = c.loop-e.e in
    record {
      count = c.keep.ensures.count ∙ c.loop-e.invariant.count;
      done = λ k less. elim (cases_lt k e) [
        | inl below ↦ c.keep.ensures.others k (λ same. omega (arith, below, same)) ∙ c.loop-e.invariant.done k below
        | inr above ↦
            let here = c.keep.ensures.here in
            let rest = c.loop-e.invariant.rest e (omega arith) in
            let same : k ≡ e = omega (arith, less, above) in
            let at_end = kept_at_end _ c.args.greatest c.args.lanes c.args.index c.end_at-lane.result
            (slice_index c.args.numbers.now e) c.end_at-lane.ensures in
            grind (arith, here, rest, same, at_end)
      ];
      rest = λ k more. c.keep.ensures.others k (λ same. omega (arith, more, same))
          ∙ c.loop-e.invariant.rest k (omega (arith, more));
    }

pub returns : goal.returns
returns c = record {
  count = c.loop-e.invariant.count;
  numbers = λ k. elim (cases_lt k c.loop-e.e) [
    | inl below ↦ c.loop-e.invariant.done k below
    | inr above ↦
        let end = c.element_of-end.ensures in
        let all = c.loop-e-test.false in
        c.loop-e.invariant.rest k above
        ∙ sym (over_none (kept c.args.greatest c.args.index) _ c.args.lanes _
        (gets_outside c.args.halves c.args.first c.args.lanes k (inr (omega (arith, above, end, all)))))
  ];
}
