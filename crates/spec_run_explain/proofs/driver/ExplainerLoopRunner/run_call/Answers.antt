use Rattle.spec_run_explain.proofs.{CallLaws.{call_explained, wants_on}, ExplainLaws.{explained_on}}
use Rattle.spec_run_explain.proofs.driver.ExplainerLoopRunner.run_call.Goals as goal

pub returns-clause-recorded : goal.returns-clause-recorded
returns-clause-recorded c = λ first calls made is before. (
  before.0,
  before.1,
  wants_on first.wants_grid c.args.self.now.loops.items c.in_ok-explained.explained c.in_ok-push-2.ensures.items
      c.still_wants-self.ensures before.2,
  call_explained c.in_ok-explained.explained is c.requires.known before.2
      (explained_on c.in_ok-start.start c.args.maps.now c.in_ok-start.ensures c.in_ok-explained.ensures)
      c.in_ok-push.ensures.items c.in_ok-push-2.ensures.items before.3,
)
