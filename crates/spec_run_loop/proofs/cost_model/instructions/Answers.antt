use Rattle.std.proofs.Common.{◌≡◌, sym, ◌∙◌, subst}
use Rattle.spec_run_loop.{specs.{Jobs.{JobOf}, Costs.{instructions}}, proofs.CostLaws.{most_is}}
use Rattle.spec_run_loop.proofs.cost_model.instructions.Goals as goal

pub returns-clause-is : goal.returns-clause-is
returns-clause-is c =
    c.from.ensures
    ∙ subst (λ (job : JobOf). c.most_instructions.result ≡ instructions job) c.job.view_is
    (most_is c.job.inside.program.now c.job.inside.call.now.callback c.most_instructions.result
    c.job.invariant.known.sound.callback
    (λ function some within there. c.most_instructions.ensures.count function some within
    (there ∙ sym c.callback.ensures)))
