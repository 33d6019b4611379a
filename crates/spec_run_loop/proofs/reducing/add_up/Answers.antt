use Rattle.std.proofs.Common.{refl, subst, sym, arith}
use Rattle.spec_run_loop.{specs.SumOps.{IsSumOp}, proofs.Searching.{is_read, sums_more, sums_none, sums_all}}
use Rattle.spec_run_loop.proofs.reducing.add_up.Goals as goal

pub loop-slot-init : goal.loop-slot-init
loop-slot-init c = sums_none c.args.op c.args.ops.now c.args.from c.args.past

pub loop-slot-preserved : goal.loop-slot-preserved
loop-slot-preserved c =
    let inside = c.loop-slot-test.true in
    let within = c.requires.within in
    sums_more c.args.op c.args.ops.now c.args.from c.args.past c.loop-slot.slot c.loop-slot.invariant
    (subst (IsSumOp c.args.op c.args.from c.args.past c.loop-slot.slot)
    (is_read c.args.op c.args.ops.now c.args.from c.args.past c.loop-slot.slot c.index-ops-slot.result
    (omega (arith, inside, within)) c.index-ops-slot.is)
    (c.is_sum.ensures.0 c.if-not-is_sum.false))

pub returns-then-not-is_sum : goal.returns-then-not-is_sum
returns-then-not-is_sum c =
    let inside = c.loop-slot-test.true in
    let within = c.requires.within in (
      λ never. absurd (cc),
      λ all. c.if-not-is_sum.ensures.1 (subst (IsSumOp c.args.op c.args.from c.args.past c.loop-slot.slot)
          (sym (is_read c.args.op c.args.ops.now c.args.from c.args.past c.loop-slot.slot c.index-ops-slot.result
          (omega (arith, inside, within)) c.index-ops-slot.is))
          (all c.loop-slot.slot c.loop-slot.auto.slot c.loop-slot-test.true)),
    )

pub returns : goal.returns
returns c = (
  λ found. sums_all c.args.op c.args.ops.now c.args.from c.args.past c.loop-slot.slot c.loop-slot-test.false
      c.loop-slot.invariant,
  λ all. refl,
)
