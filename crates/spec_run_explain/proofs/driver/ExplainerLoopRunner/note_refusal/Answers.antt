use Rattle.std.proofs.Common.{refl}
use Rattle.spec_run_explain.proofs.CallLaws.{refusal_explained, wants_still}
use Rattle.spec_run_explain.proofs.driver.ExplainerLoopRunner.note_refusal.Goals as goal

pub returns-clause-recorded : goal.returns-clause-recorded
returns-clause-recorded c = λ program first calls words before. (
  before.0,
  before.1,
  wants_still first.wants_grid c.args.self.now.loops.items c.refused-explained.result
      c.in_ok-push-2.ensures.items c.refused-explained.ensures.grid before.2,
  refusal_explained words c.refused-explained.result c.refused-explained.ensures.line
      refl c.refused-explained.ensures.iterations c.refused-explained.ensures.flags
      c.refused-explained.ensures.broke
      c.refused-explained.ensures.strategy c.refused-explained.ensures.causes c.refused-explained.ensures.grid
      c.in_ok-push.ensures.items c.in_ok-push-2.ensures.items before.3,
)
