-- The workers of a loop, once they are done.
use Rattle.std.specs.{Prelude.{◌≡◌, ℕ, List, map, length, None}, List.{AllByRecursion}}
use Rattle.loop_core_model.specs.Gather.{gather_fault}
use Rattle.loop_board.specs.Seats.{BoardId, SeatRecord}
use Rattle.loop_core_block.specs.{Blocks.{BlockOf}, Loops.{LoopOf}, Ran.{as_gathered}, Shown.{shown}}
use Rattle.spec_run_workers.specs.CompleteLaw.{WorkerOf, seats_of, blocks_of_all, IsWorkerOf}
use Rattle.spec_run_workers.specs.declared.worker.Worker.{Worker}

-- a worker as contracts see it
abbrev pub board_worker : Worker → WorkerOf
board_worker w = record { seat = w.seat; blocks = map shown w.blocks.items }

-- it is one whole worker of the loop at this board
pub record IsWorkerAt (l : LoopOf) (board : BoardId) (w : WorkerOf) : Type 0 where
  pub worker : IsWorkerOf l.test l.program l.call l.start.words l.bounds w
  pub at_board : w.seat.board ≡ board

-- seats and blocks are those of n whole workers of the loop at this board
pub record AreOfWorkers (l : LoopOf) (board : BoardId) (number : ℕ) (seats : List SeatRecord)
    (blocks : List BlockOf) : Type 0 where
  pub workers : List WorkerOf
  pub are : AllByRecursion (IsWorkerAt l board) workers
  pub count : length workers ≡ number
  pub seats_are : seats ≡ seats_of workers
  pub blocks_are : blocks ≡ blocks_of_all workers

-- of a loop's blocks none is missing, doubled or foreign
abbrev pub AreFaultless : LoopOf → List BlockOf → Type 0
AreFaultless l blocks = gather_fault l.bounds (map (as_gathered l.program l.call l.start.words) blocks) ≡ None
