use Rattle.std.proofs.Common.{length, refl, ap, ◌∙◌, subst, arith}
use Rattle.array_maps.specs.MapList.{MapList, AreWords}
use Rattle.spec_run_loop.specs.{SumLoops.{SumLoopOf}}
use Rattle.spec_run_loop.proofs.RangeByRange.{none_added, as_long, one_added, broke_off, all_added}
use Rattle.spec_run_loop.proofs.reduction_loop.ReductionLoop.add_up.Goals as goal

pub loop-sum-init : goal.loop-sum-init
loop-sum-init c = record {
  sizes = refl;
  added = λ from to are. none_added c.args.self.now from to c.args.sums.now are c.args.maps.now;
}

pub update_run-requires : goal.update_run-requires
update_run-requires c =
    let same = ap length c.words.ensures.words in
    let long = as_long c.args.self.now c.args.sums.now c.requires.fit c.loop-sum.sum-index c.sum-item.result
    c.args.maps.now c.loop-sum.maps c.loop-sum-test.true c.sum-item.is c.loop-sum.invariant.sizes c.requires.sizes
    c.sizes-sizes.ensures.words c.sizes-others.ensures.words in
    omega (arith, same, long)

pub loop-sum-preserved : goal.loop-sum-preserved
loop-sum-preserved c = record {
  sizes = ap (λ (maps : MapList). maps.sizes) c.update_run.ensures ∙ c.loop-sum.invariant.sizes;
  added = λ from to are. one_added c.args.self.now from to c.args.sums.now are c.args.maps.now c.loop-sum.sum-index
      c.sum-item.result c.loop-sum.maps c.update_run.new.self c.loop-sum-test.true c.sum-item.is
      (c.loop-sum.invariant.added from to are) c.requires.sizes c.sizes-sizes.ensures.words
      (subst AreWords c.words-words.ensures.words c.words-words.ensures.fit)
      c.sizes-others.ensures.words c.self.inside.op
      (ap (λ (l : SumLoopOf). l.op) c.self.view_is) c.words.result.now c.words.ensures.words c.update_run.ensures
      c.in_default.is;
}

pub returns-in-Some : goal.returns-in-Some
returns-in-Some c = λ from to are.
    broke_off c.args.self.now from to c.args.sums.now are c.args.maps.now c.loop-sum.sum-index c.sum-item.result
    c.loop-sum.maps c.update_run.new.self c.loop-sum-test.true c.sum-item.is
    (c.loop-sum.invariant.added from to are) c.requires.sizes c.sizes-sizes.ensures.words
    (subst AreWords c.words-words.ensures.words c.words-words.ensures.fit)
    c.sizes-others.ensures.words c.self.inside.op
    (ap (λ (l : SumLoopOf). l.op) c.self.view_is) c.words.result.now c.words.ensures.words c.update_run.ensures
    c.in-Some.answer c.in-Some.is

pub returns : goal.returns
returns c = λ from to are.
    let past = c.loop-sum-test.false in
    let within = c.loop-sum.auto.sum-index-end in
    all_added c.args.self.now from to c.args.sums.now are c.args.maps.now c.loop-sum.sum-index c.loop-sum.maps
    (omega (arith, past, within)) (c.loop-sum.invariant.added from to are)
