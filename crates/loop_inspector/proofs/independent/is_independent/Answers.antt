use Rattle.std.proofs.{Common.{◌∙◌, sym}, lemmas.{Bool.{eqb-true}, List.{nil_from_length}}}
use Rattle.loop_inspector.proofs.Passing.{is_call, none_open_pass}
use Rattle.loop_inspector.proofs.independent.is_independent.Goals as goal

pub returns : goal.returns
returns c is =
    let survey = c.in-Some-2.survey in
    none_open_pass c.args.program.now c.args.call.now c.in-Some.rows.now
    (is_call c.results_fit.ensures c.law_of_plain_iterations.ensures c.law_of_accepted_programs.ensures
    c.law_of_accepted_runs.ensures.counts c.args.program.now
    (record { accepted = c.unit-unit.ensures.accepted; fits = c.unit-unit.ensures.fit }) c.requires
    (rw c.callback.ensures at c.in-Some.ensures) c.frame-frame.result.now c.frame-frame.ensures) survey
    (rw (c.in-Some-2.is, c.as_slice-ops.ensures.value, c.n.ensures) at c.in_ok-survey.ensures)
    (nil_from_length survey.spans.items (sym survey.spans.ok.0 ∙ eqb-true survey.spans.len 0 (sym c.is_empty.ensures
    ∙ is)))
