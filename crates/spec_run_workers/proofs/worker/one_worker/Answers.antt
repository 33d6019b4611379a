use Rattle.loop_core_block.specs.{LoopBlocks.{RecordsRunOf}, Shown.{shown}}
use Rattle.std.proofs.Common.{map}
use Rattle.spec_run_workers.{specs.CompleteLaw.{WorkerOf}, proofs.WorkerLaws.{images_all, worker_at}}
use Rattle.spec_run_workers.proofs.worker.one_worker.Goals as goal

pub returns : goal.returns
returns g c =
    let w : WorkerOf = record { seat = c.work.new.seat; blocks = map shown c.in_ok-blocks.blocks.items } in
    worker_at c.args.of.now c.args.board.now c.args.seat w c.requires.seat c.in_ok-blocks.ensures.worked
    (images_all (RecordsRunOf c.args.of.now) shown c.in_ok-blocks.blocks.items c.in_ok-blocks.ensures.ran)
