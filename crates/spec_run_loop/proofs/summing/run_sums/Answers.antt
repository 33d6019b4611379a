use Rattle.std.proofs.Common.{sym, ap, ◌∙◌, subst}
use Rattle.array_maps.specs.MapList.{AreWords}
use Rattle.loop_core_sequential.specs.Loops.{RanLoopInOrder}
use Rattle.spec_run_loop.{specs.SumLoops.{SumLoopOf}, proofs.SumLaws.{passed_so}}
use Rattle.spec_run_loop.proofs.summing.run_sums.Goals as goal

pub in_order-answer-requires-clause-sizes : goal.in_order-answer-requires-clause-sizes
in_order-answer-requires-clause-sizes g c =
    c.requires.sizes ∙ sym (ap (λ (l : SumLoopOf). l.program.sizes) c.of.view_is)

pub returns-then-workers-eq1-clause-outcome : goal.returns-then-workers-eq1-clause-outcome
returns-then-workers-eq1-clause-outcome g c =
    passed_so c.args.of.now c.args.maps.now c.in_order-answer.new.maps c.in_order-answer.result _
    c.passed.result
    c.law_of_passing.ensures c.sizes-sizes.ensures.words c.requires.sizes
    (subst AreWords c.words-words.ensures.words c.words-words.ensures.fit) c.passed.ensures
    (subst (λ (l : SumLoopOf). RanLoopInOrder l.program l.call c.args.maps.now c.in_order-answer.new.maps
    c.in_order-answer.result)
    c.of.view_is c.in_order-answer.ensures)

pub returns-clause-outcome : goal.returns-clause-outcome
returns-clause-outcome g c =
    passed_so c.args.of.now c.args.maps.now c.in_rounds-answer.new.maps c.in_rounds-answer.result _ c.passed-2.result
    c.law_of_passing.ensures c.sizes-sizes.ensures.words c.requires.sizes
    (subst AreWords c.words-words.ensures.words c.words-words.ensures.fit) c.passed-2.ensures
    c.in_rounds-answer.ensures
