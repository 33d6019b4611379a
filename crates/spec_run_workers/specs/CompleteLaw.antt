-- Whatever the workers did, in whatever order, their blocks are complete.
use Rattle.std.specs.{Prelude.{◌≡◌, ℕ, ◌<◌, ◌≤◌, List, map, length, None}, List.{AllByRecursion, flat_map}}
use Rattle.bpf_insn_types.specs.Program.{Program}
use Rattle.bpf_step_model.specs.State.{LoopCall}
use Rattle.loop_core_model.specs.{declared.loop_test.Test.{Test}, Split.{split_fault}, Gather.{gather_fault}}
use Rattle.loop_core_model.specs.Intervals.{blocks_of}
use Rattle.loop_board.specs.{History.{Legal}, Seats.{SeatRecord, new_seat, histories}}
use Rattle.loop_core_block.specs.{Blocks.{BlockOf}, Ran.{as_gathered, RecordsRun}}
use Rattle.spec_run_workers.specs.Worked.{Worked}

-- a worker that is done: its seat, and the blocks that it ran
pub record WorkerOf : Type 0 where
  pub seat : SeatRecord
  pub blocks : List BlockOf

-- the seats of workers
abbrev pub seats_of : List WorkerOf → List SeatRecord
seats_of workers = map (λ (w : WorkerOf). w.seat) workers

-- the blocks of all workers
abbrev pub blocks_of_all : List WorkerOf → List BlockOf
blocks_of_all workers = flat_map (λ (w : WorkerOf). w.blocks) workers

-- it is one whole worker, at a seat that had done nothing
pub record IsWorkerOf (test : Test) (program : Program) (call : LoopCall) (words : List ℕ) (bounds : List ℕ)
    (w : WorkerOf) : Type 0 where
  pub worked : Worked bounds (new_seat w.seat.board) w.seat w.blocks
  pub ran : AllByRecursion (RecordsRun test program call words) w.blocks

-- workers of a split, one at least, whose histories are legal on a board of its blocks: of the blocks that they ran
-- none is missing, doubled or foreign
abbrev pub WorkersComplete : Type 0
WorkersComplete = (test : Test) (program : Program) (call : LoopCall) (words : List ℕ) (bounds : List ℕ) (claimed : ℕ)
    (workers : List WorkerOf) →
    split_fault bounds call.n ≡ None → call.n ≤ 8388608 → 0 < length workers →
    Legal (blocks_of bounds) claimed (histories (seats_of workers)) →
    AllByRecursion (IsWorkerOf test program call words bounds) workers →
    gather_fault bounds (map (as_gathered program call words) (blocks_of_all workers)) ≡ None
