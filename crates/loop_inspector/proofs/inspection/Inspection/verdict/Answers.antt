use Rattle.std.{proofs.Common.{ℕ, List, refl, ap, inl, inr, ◌∙◌, arith}, specs.List.{sum}}
use Rattle.loop_core_model.specs.{Planes.{elements_in_plane}, Report.{judged}}
use Rattle.bpf_step.proofs.Limits.{map_words}
use Rattle.loop_inspector.proofs.{Inspecting.{inspected_verdict, none_inspected}, Passing.{is_call}}
use Rattle.loop_inspector.proofs.inspection.Inspection.verdict.Goals as goal

pub loop-index-init : goal.loop-index-init
loop-index-init c = record {
  within = omega arith;
  ahead = omega arith;
  elements = refl;
  test = c.requires.test;
  marked = none_inspected c.args.program.now c.args.call.now c.args.maps.now.words c.args.self.now.plane.items
      c.args.marks.now.planes c.requires.none;
}

pub returns-then-conflicts_in-most : goal.returns-then-conflicts_in-most
returns-then-conflicts_in-most c =
    let within = c.min-to.ensures in
    let most = c.n-n.ensures in
    inspected_verdict c.args.program.now c.args.call.now c.requires.is.rows
    (is_call c.results_fit.ensures c.law_of_plain_iterations.ensures c.law_of_accepted_programs.ensures
    c.law_of_accepted_runs.ensures.counts c.args.program.now
    (record {
      accepted = c.unit-unit.ensures.accepted;
      fits =
          c.unit-unit.ensures.fit;
    }) c.requires.known c.requires.is.are
    c.frame-frame.result.now c.frame-frame.ensures)
    c.args.maps.now.words (map_words c.args.program.now c.args.maps.now.words
    (c.sizes-sizes.ensures.words ∙ ap sum c.requires.sizes) (rw c.words-words.ensures.words at
    c.words-words.ensures.fit))
    c.args.self.now c.requires.is.is c.min-to.result (omega (arith, within, most)) c.mark_range.new.marks.planes
    (c.mark_range.ensures.marked c.if-not-mark_range.false) (c.mark_range.ensures.test ∙ c.loop-index.invariant.test)
    (c.mark_range.ensures.elements ∙ c.loop-index.invariant.elements ∙ c.requires.elements) c.in_ok-found.found
    c.in_ok-found.ensures (inr (record {
      count = c.conflicts_in.result;
      counts = λ es is. c.conflicts_in.ensures es is;
      all = c.if-conflicts_in-most.true ∙ c.conflicts_in-most.ensures (elements_in_plane c.args.self.now.plane.items)
          (c.judge.ensures ∙ ap (λ (p : List ℕ). judged (elements_in_plane p)) c.as_slice.ensures.value);
    }))

pub returns : goal.returns
returns c =
    let past = c.loop-index-test.false in
    let within = c.loop-index.invariant.within in
    let most = c.n-n.ensures in
    inspected_verdict c.args.program.now c.args.call.now c.requires.is.rows
    (is_call c.results_fit.ensures c.law_of_plain_iterations.ensures c.law_of_accepted_programs.ensures
    c.law_of_accepted_runs.ensures.counts c.args.program.now
    (record {
      accepted = c.unit-unit.ensures.accepted;
      fits =
          c.unit-unit.ensures.fit;
    }) c.requires.known c.requires.is.are
    c.frame-frame.result.now c.frame-frame.ensures)
    c.args.maps.now.words (map_words c.args.program.now c.args.maps.now.words
    (c.sizes-sizes.ensures.words ∙ ap sum c.requires.sizes) (rw c.words-words.ensures.words at
    c.words-words.ensures.fit))
    c.args.self.now c.requires.is.is c.loop-index.index (omega (arith, within, most)) c.loop-index.marks.planes
    c.loop-index.invariant.marked c.loop-index.invariant.test
    (c.loop-index.invariant.elements ∙ c.requires.elements) c.in_ok-verdict_by.field-0
    c.in_ok-verdict_by.ensures (inl (omega (arith, past, within, most)))
