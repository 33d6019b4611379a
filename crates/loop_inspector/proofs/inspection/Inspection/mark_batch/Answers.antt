use Rattle.std.{proofs.Common.{ap, ◌∙◌}, specs.List.{sum}}
use Rattle.row_run.specs.Batches.{batch_log}
use Rattle.bpf_step.proofs.Limits.{map_words}
use Rattle.loop_inspector.proofs.{Inspecting.{batch_inspected}, Passing.{is_call}}
use Rattle.loop_inspector.proofs.inspection.Inspection.mark_batch.Goals as goal

pub returns-clause-marked : goal.returns-clause-marked
returns-clause-marked c = λ marked before.
    batch_inspected c.args.program.now c.args.call.now c.requires.is.rows
    (is_call c.results_fit.ensures c.law_of_plain_iterations.ensures c.law_of_accepted_programs.ensures
    c.law_of_accepted_runs.ensures.counts c.args.program.now
    (record {
      accepted = c.unit-unit.ensures.accepted;
      fits =
          c.unit-unit.ensures.fit;
    }) c.requires.known c.requires.is.are
    c.frame-frame.result.now c.frame-frame.ensures)
    c.args.maps.now.words (map_words c.args.program.now c.args.maps.now.words
    (c.sizes-sizes.ensures.words ∙ ap sum c.requires.sizes) (rw c.words.ensures.words at c.words.ensures.fit))
    c.args.self.now c.requires.is.is c.args.index c.args.lanes c.requires.within (batch_log c.run-ran.new.self)
    c.in-Some.count c.if-count-lanes.false (rw c.words.ensures.words at c.in-Some.ensures.ran)
    c.args.marks.now.planes c.mark_lanes.new.self.planes
    (rw (c.sites.ensures, c.lanes.ensures) at (c.mark_lanes.ensures.marked marked)) before
