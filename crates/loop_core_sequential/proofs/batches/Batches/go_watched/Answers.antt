use Rattle.std.{proofs.Common.{ap, arith, length, sym, ◌∙◌}, specs.List.{sum}}
use Rattle.loop_core_model.proofs.Sparing.{length-before}
use Rattle.row_run.specs.Batches.{batch_log}
use Rattle.loop_core_sequential.proofs.{Together.{lanes_go_on, lanes_go_leave, lanes_went}}
use Rattle.loop_core_sequential.proofs.WatchedLanes.{goes_on_watched}
use Rattle.loop_core_sequential.proofs.batches.Batches.go_watched.Goals as goal

pub returns-clause-count : goal.returns-clause-count
returns-clause-count c =
    ap length c.change.ensures.words
    ∙ length-before (batch_log c.ran_together.new.self.batch) c.args.maps.now.words c.in-Some.count
    ∙ c.requires.count ∙ sym c.note_writes.ensures.grows.count

pub returns-clause-goes : goal.returns-clause-goes
returns-clause-goes c = λ start goes.
    let fit = rw c.words-words.ensures.words at c.words-words.ensures.fit in
    let go_on = lanes_go_on c.law_of_plain_iterations.ensures c.law_of_accepted_programs.ensures
    c.law_of_accepted_runs.ensures.counts c.args.run.now.program.now
    (record { accepted = c.unit-unit.ensures.accepted; fits = c.unit-unit.ensures.fit })
    c.args.run.now.call.now c.requires.ready.known c.frame-frame.result.now c.frame-frame.ensures c.args.rows.now
    c.requires.rows c.args.maps.now.words
    (record { count = c.sizes-sizes.ensures.words ∙ ap sum c.requires.sizes; fit = fit })
    c.args.index c.args.lanes c.in-Some.count c.requires.within c.ran_together.new.self.batch c.in-Some.ensures in
    goes_on_watched c.law_of_words_before.ensures _ _ _ _ _ _ _ _ _ _ _ goes fit go_on c.in-Some.ensures.apart
    (rw (c.sites-sites.ensures, c.lanes-of_lanes.ensures) at (c.are_unread.ensures c.if-not-are_unread.false))
    (rw (c.sites-sites.ensures, c.lanes-of_lanes.ensures) at c.note_writes.ensures)
    (lanes_went c.law_of_batches.ensures.each _ _ _ _ (omega (arith, c.in-Some.ensures.few)) _ _ _ fit
    (lanes_go_leave _ _ _ _ _ (batch_log c.ran_together.new.self.batch) go_on) c.in-Some.ensures.applies.together
    c.change.ensures.sizes c.change.ensures.words)
    c.change.ensures.words
