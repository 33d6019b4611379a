use Rattle.std.proofs.Common.{◌≤◌, ◌-◌, All, IfOk, map, vec_len}
use Rattle.loop_board.specs.Seats.{BoardId}
use Rattle.loop_core_block.specs.{Loops.{LoopOf}, Shown.{shown}}
use Rattle.spec_run_workers.specs.Workers.{board_worker, IsWorkerAt, AreOfWorkers}
use Rattle.spec_run_workers.proofs.worker.seats_and_blocks.Given as goal

abbrev pub invariant-loop-worker : goal.invariant-loop-worker
invariant-loop-worker l = record {
  count : vec_len l.done ≤ vec_len l.fn.done;
  parts : (of : LoopOf) (board : BoardId) →
      All (λ r. IfOk r (λ w. IsWorkerAt of board (board_worker w))) l.fn.done.items →
      All (λ r. IfOk r (λ w. IsWorkerAt of board (board_worker w))) l.done.items
      × AreOfWorkers of board (vec_len l.fn.done - vec_len l.done) l.seats.items (map shown l.blocks.items);
}

abbrev pub decreases-loop-worker : goal.decreases-loop-worker
decreases-loop-worker l = vec_len l.done
