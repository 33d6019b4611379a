use Rattle.std.proofs.Common.{Some, sym, ap, ◌∙◌, subst, arith}
use Rattle.loop_core_sequential.specs.Rests.{RanTo}
use Rattle.loop_core_sequential.proofs.InOrder.{stayed, went_both}
use Rattle.spec_run_loop.{specs.SumLoops.{SumLoopOf}, proofs.RoundLaws.{broke_in_round}}
use Rattle.spec_run_loop.proofs.summing.in_rounds.Goals as goal

pub range_in_order-requires-clause-sizes : goal.range_in_order-requires-clause-sizes
range_in_order-requires-clause-sizes g c =
    c.requires.sizes ∙ sym (ap (λ (l : SumLoopOf). l.program.sizes) c.of.view_is)

pub returns-in-Some : goal.returns-in-Some
returns-in-Some g c =
    let of = c.args.of.now in
    let start = c.args.maps.now in
    broke_in_round of 0 c.min-from.result c.n-n.result start start c.range_in_order.new.maps c.in-Some.broke
    (c.n-n.ensures ∙ ap (λ (l : SumLoopOf). l.call.n) c.of.view_is) (omega arith)
    (stayed of.program of.call 0 start (omega arith))
    (subst (λ (l : SumLoopOf). RanTo l.program l.call 0 c.min-from.result start c.range_in_order.new.maps
    (Some c.in-Some.broke)) c.of.view_is c.in-Some.ensures)

pub loop-from-init : goal.loop-from-init
loop-from-init g c =
    let of = c.args.of.now in
    let alone = c.requires.alone in
    let ran : RanTo of.program of.call 0 c.min-from.result c.args.maps.now c.range_in_order.new.maps
    c.range_in_order.result =
    subst (λ (l : SumLoopOf). RanTo l.program l.call 0 c.min-from.result c.args.maps.now c.range_in_order.new.maps
    c.range_in_order.result) c.of.view_is c.range_in_order.ensures in
    record {
      some = λ below. omega (arith, alone, below);
      fit = c.requires.fit;
      ran = rw c.in_default.is at ran;
    }

pub loop-from-preserved : goal.loop-from-preserved
loop-from-preserved g c =
    let of = c.args.of.now in
    let round = c.next_round-round.result in
    let on = c.next_round-round.ensures.on in
    record {
      some = λ below. omega (arith, on);
      fit = c.run_round.ensures.fit;
      ran = went_both of.program of.call 0 c.loop-from.from round.to c.args.maps.now c.loop-from.maps
          c.run_round.new.maps c.loop-from.invariant.ran
          (rw (c.next_round-round.ensures.from, c.in_default-run_round.is) at c.run_round.ensures.ran);
    }

pub returns-in-Some-run_round : goal.returns-in-Some-run_round
returns-in-Some-run_round g c =
    let of = c.args.of.now in
    let round = c.next_round-round.result in
    broke_in_round of c.loop-from.from round.to c.n-n.result c.args.maps.now c.loop-from.maps c.run_round.new.maps
    c.in-Some-run_round.answer (c.n-n.ensures ∙ ap (λ (l : SumLoopOf). l.call.n) c.of.view_is)
    c.next_round-round.ensures.within c.loop-from.invariant.ran
    (rw c.next_round-round.ensures.from at c.in-Some-run_round.ensures.ran)
