use Rattle.std.{proofs.Common.{◌≡◌, ℕ, List, take, ap, subst, ◌∙◌}, specs.List.{filter, range_with_len}}
use Rattle.loop_core_model.specs.{Intervals.{start_of, end_of}, Marks.{Visit, marks_of, marked_conflict}}
use Rattle.loop_core_model.specs.Planes.{elements_in_plane, plane_verdict}
use Rattle.shadow_marks.specs.{declared.planes.Planes.{Planes}, Standing.{StandFor, test_of}}
use Rattle.loop_core_block.specs.Shown.{shown}
use Rattle.spec_run_explain.proofs.{ListLaws.{one_starts, one_ends}, ConflictLaws.{are_conflicts}}
use Rattle.spec_run_explain.proofs.finding.find_conflicts.Goals as goal

pub returns : goal.returns
returns c =
    let plane = c.in_ok-plane.plane.items in
    are_conflicts c.args.test c.args.program.now c.args.call.now c.args.start.now.words c.args.most
    (shown c.in_ok-block.block) plane (record {
      verdict = c.verdict_of.result;
      broke = c.broke.result;
      least = c.in_ok-least.least;
    })
    c.in_ok-block.ensures.ran
    (c.in_ok-block.ensures.first ∙ ap (λ (bounds : List ℕ). start_of bounds 0) c.in-Ok.ensures.ok
    ∙ one_starts c.n.result)
    (c.in_ok-block.ensures.past ∙ ap (λ (bounds : List ℕ). end_of bounds 0) c.in-Ok.ensures.ok
    ∙ one_ends c.n.result ∙ c.n.ensures)
    c.in_ok-plane.ensures.words
    (subst (λ (p : Planes). (visits : ℕ → List Visit) → StandFor p visits → elements_in_plane plane
    ≡ filter (λ e. marked_conflict (test_of p.tested) (marks_of (visits e))) (range_with_len 0 p.elements))
    c.planes.ensures c.in_ok-plane.ensures.elements)
    (c.verdict_of.ensures ∙ ap plane_verdict c.as_slice-2.ensures.value)
    c.broke.ensures
    (c.in_ok-least.ensures ∙ ap (λ (words : List ℕ). take c.args.most (elements_in_plane words))
    c.as_slice.ensures.value)
