use Rattle.loop_core_block.specs.{LoopBlocks.{RecordsRunOf}, Shown.{shown}}
use Rattle.spec_run_workers.proofs.AloneLaws.{all_of_one, alone_faultless}
use Rattle.spec_run_workers.proofs.worker.run_alone.Goals as goal

pub returns-clause-ran : goal.returns-clause-ran
returns-clause-ran g c =
    all_of_one (λ b. RecordsRunOf c.args.of.now (shown b)) _ _ c.in_ok-block.block c.new-blocks.ensures.items
    c.in_ok-push.ensures.items c.in_ok-block.ensures.ran

pub returns-clause-faultless : goal.returns-clause-faultless
returns-clause-faultless g c =
    alone_faultless c.args.of.now _ _ c.in_ok-block.block c.new-blocks.ensures.items c.in_ok-push.ensures.items
    c.requires c.in_ok-block.ensures
