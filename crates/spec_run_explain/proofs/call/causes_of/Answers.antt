use Rattle.std.proofs.Common.{refl, arith}
use Rattle.spec_run_explain.proofs.{CauseLaws.{one_more, all_causes}, ExplainLaws.{all_last}}
use Rattle.spec_run_explain.proofs.call.causes_of.Goals as goal

pub loop-element-preserved : goal.loop-element-preserved
loop-element-preserved c = record {
  elements = one_more c.loop-element.causes.items c.push.new.self.items _ c.args.elements.now
      c.loop-element.element-index _ c.loop-element-test.true c.in_ok-push.ensures.items refl
      c.loop-element.invariant.elements;
  causes_are = all_last _ c.loop-element.causes.items c.push.new.self.items _
      c.in_ok-push.ensures.items c.loop-element.invariant.causes_are
      (record { pair = rw c.in-Some.is at c.in_ok-pair.ensures.pair; end = c.in_ok-end.ensures.end });
}

pub returns : goal.returns
returns c = record {
  elements = all_causes c.loop-element.causes.items c.args.elements.now c.loop-element.element-index
      (omega (arith, c.loop-element-test.false)) c.loop-element.invariant.elements;
  causes = c.loop-element.invariant.causes_are;
}
