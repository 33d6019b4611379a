use Rattle.std.proofs.Common.{◌+◌, refl, arith}
use Rattle.loop_core_witness.proofs.BreakLaws.{break_within, are_counted}
use Rattle.loop_core_witness.proofs.counting.counted_by.Goals as goal

pub overflow_add-result : goal.overflow_add-result
overflow_add-result c =
    let within = break_within c.args.program.now c.args.call.now c.args.start.now.words c.in-Some.place
    (rw c.in-Some.is at c.requires.broke) in
    omega (arith, within, c.n-n.ensures)

pub returns-in-Some : goal.returns-in-Some
returns-in-Some c =
    are_counted c.law_of_accepted_programs.ensures c.law_of_accepted_runs.ensures.counts c.args.program.now
    (record { accepted = c.unit-unit.ensures.accepted; fits = c.unit-unit.ensures.fit }) c.args.call.now
    c.requires.known c.args.start.now c.requires.sizes c.sizes-sizes.ensures.words c.words_fit.ensures c.args.broke
    c.requires.broke (c.in-Some.place.index + 1) (rw c.in-Some.is refl)

pub returns-in-None : goal.returns-in-None
returns-in-None c =
    are_counted c.law_of_accepted_programs.ensures c.law_of_accepted_runs.ensures.counts c.args.program.now
    (record { accepted = c.unit-unit.ensures.accepted; fits = c.unit-unit.ensures.fit }) c.args.call.now
    c.requires.known c.args.start.now c.requires.sizes c.sizes-sizes.ensures.words c.words_fit.ensures c.args.broke
    c.requires.broke c.n-n.result (rw c.in-None.is c.n-n.ensures)
