use Rattle.std.{proofs.Common.{ap, ◌∙◌, arith}, specs.List.{sum}}
use Rattle.loop_core_sequential.proofs.{Together.{lanes_leave, lanes_went}}
use Rattle.loop_core_sequential.proofs.batches.Batches.go_together.Goals as goal

pub returns-clause-went : goal.returns-clause-went
returns-clause-went c =
    let fit = rw c.words-words.ensures.words at c.words-words.ensures.fit in
    lanes_went c.law_of_batches.ensures.each _ _ _ _ (omega (arith, c.in-Some.ensures.few)) _ _ _ fit
    (lanes_leave c.law_of_plain_iterations.ensures c.law_of_accepted_programs.ensures
    c.law_of_accepted_runs.ensures.counts _
    (record { accepted = c.unit-unit.ensures.accepted; fits = c.unit-unit.ensures.fit }) _ c.requires.ready.known _
    c.frame-frame.ensures c.args.list.now c.args.sites.now c.requires.rows c.args.maps.now.words
    (record { count = c.sizes-sizes.ensures.words ∙ ap sum c.requires.sizes; fit = fit })
    c.args.index c.args.lanes c.in-Some.count c.requires.within c.ran_together.new.self.batch c.in-Some.ensures)
    c.in-Some.ensures.applies.together c.change.ensures.sizes c.change.ensures.words
