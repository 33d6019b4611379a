use Rattle.std.proofs.Common.{refl, ap, subst}
use Rattle.array_maps.specs.MapList.{AreWords}
use Rattle.loop_core_sequential.specs.Loops.{RanLoopInOrder}
use Rattle.spec_run_loop.specs.{declared.decision.LoopAnswer.{LoopAnswer}, Strategies.{ToTheEnd}, Jobs.{JobOf}}
use Rattle.spec_run_loop.proofs.PassLaws.{passed_in_order, independent_passes}
use Rattle.spec_run_loop.proofs.watching.run_independent.Goals as goal

pub returns-clause-outcome : goal.returns-clause-outcome
returns-clause-outcome c =
    let job = c.args.job.now in
    let start = c.args.maps.now in
    let left = c.in_order-answer.new.maps in
    passed_in_order job.program job.call start left c.in_order-answer.result _ c.passed.result c.passed.ensures
    (independent_passes job.program job.call start left c.in_order-answer.result c.requires.passes
    c.sizes-sizes.ensures.words c.requires.sizes
    (subst AreWords c.words-words.ensures.words c.words-words.ensures.fit)
    (subst (λ (j : JobOf). RanLoopInOrder j.program j.call start left c.in_order-answer.result) c.job.view_is
    c.in_order-answer.ensures))

pub returns-clause-strategy : goal.returns-clause-strategy
returns-clause-strategy c otherwise =
    let job = c.args.job.now in
    let start = c.args.maps.now in
    let left = c.in_order-answer.new.maps in
    ToTheEnd start left c.in_order-answer.result refl
    (independent_passes job.program job.call start left c.in_order-answer.result c.requires.passes
    c.sizes-sizes.ensures.words c.requires.sizes
    (subst AreWords c.words-words.ensures.words c.words-words.ensures.fit)
    (subst (λ (j : JobOf). RanLoopInOrder j.program j.call start left c.in_order-answer.result) c.job.view_is
    c.in_order-answer.ensures))
    (ap (λ (a : LoopAnswer). a.strategy) c.passed.ensures)
