use Rattle.std.proofs.Common.{length-set, ◌∙◌, arith}
use Rattle.loop_marks.proofs.RunLaws.{run_all, run_next}
use Rattle.loop_marks.proofs.by_site.set_run.Goals as goal

pub loop-from-preserved : goal.loop-from-preserved
loop-from-preserved c =
    let to = c.min-to.ensures in
    let below = c.loop-from-test.true in
    let above = c.loop-from.invariant.above in
    let count = c.loop-from.invariant.count in
    let within = c.requires.within in
    record {
      above = omega (arith, to, below, above);
      below = omega (arith, to);
      count = length-set _ _ _ ∙ count;
      bits = run_next c.args.words.now c.loop-from.words c.args.start c.loop-from.from c.min-to.result c.bits.result
          above (omega (arith, to, below)) (omega (arith, to)) (omega (arith, below, within, count)) c.bits.ensures
          c.loop-from.invariant.bits;
    }

pub returns : goal.returns
returns c =
    run_all c.args.words.now c.loop-from.words c.args.start c.args.lanes c.loop-from.from c.loop-from.invariant.count
    (omega (arith, c.loop-from-test.false, c.loop-from.invariant.below)) c.loop-from.invariant.bits
