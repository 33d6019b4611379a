use Rattle.spec_run_loop.proofs.summing.run_round.Goals as goal

pub returns-clause-ran : goal.returns-clause-ran
returns-clause-ran g c =
    c.add_up.ensures c.args.round.now.from c.args.round.now.to c.run_shares.ensures.sums
