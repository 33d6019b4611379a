use Rattle.std.proofs.Common.{arith}
use Rattle.loop_core_block.proofs.RunLaws.{ran_none, goes_on, breaks}
use Rattle.loop_core_block.proofs.runner.Runner.run.Goals as goal

pub loop-index-init : goal.loop-index-init
loop-index-init g c = ran_none c.args.self.now c.args.first c.requires.none

pub iterate-requires-clause-so_far : goal.iterate-requires-clause-so_far
iterate-requires-clause-so_far g c =
    (c.args.first, c.loop-index.invariant.ran, c.loop-index.invariant.has_run)

pub returns-then-branch : goal.returns-then-branch
returns-then-branch g c = record {
  ran = breaks c.args.first c.loop-index.index c.args.self.now c.loop-index.self c.iterate.new.self
      c.in_ok-iterate.field-0 (omega arith) c.loop-index.invariant c.in_ok-iterate.ensures.ran c.args.past
      c.loop-index-test.true c.if-branch.true;
}

pub loop-index-preserved : goal.loop-index-preserved
loop-index-preserved g c =
    goes_on c.args.first c.loop-index.index c.args.self.now c.loop-index.self c.iterate.new.self
    c.in_ok-iterate.field-0 (omega arith) c.loop-index.invariant c.in_ok-iterate.ensures.ran c.if-branch.false
