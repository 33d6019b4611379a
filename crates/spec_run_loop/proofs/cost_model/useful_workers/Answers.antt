use Rattle.spec_run_loop.proofs.CostLaws.{keeps_one, keeps_some}
use Rattle.spec_run_loop.proofs.cost_model.useful_workers.Goals as goal

pub returns-then-shares-lt-LEAST_SHARES-clause-is : goal.returns-then-shares-lt-LEAST_SHARES-clause-is
returns-then-shares-lt-LEAST_SHARES-clause-is c =
    keeps_one c.args.work c.args.elements c.cost_of_elements-share.result c.args.plan.now
    c.cost_of_elements-share.ensures c.if-shares-lt-LEAST_SHARES.true

pub returns-clause-is : goal.returns-clause-is
returns-clause-is c =
    let up = c.min-shared.ensures in
    let most = c.from.ensures in
    let by_workers = c.min.ensures in
    let by_blocks = c.min-2.ensures in
    keeps_some c.args.work c.args.elements c.cost_of_elements-share.result c.args.plan.now c.min-shared.result
    c.min-2.result c.requires.few_workers c.cost_of_elements-share.ensures c.if-shares-lt-LEAST_SHARES.false
    (rw (← most) up) (rw (← by_workers) by_blocks)
