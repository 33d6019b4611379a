-- Workers that are done, one after another.
use Rattle.std.proofs.Common.{◌≡◌, ℕ, zero, suc, ◌+◌, ◌<◌, ◌≤◌, List, [], ◌∷◌, ◌++◌, None, All, map, Some}
use Rattle.std.proofs.Common.{sym, ◌∙◌, ap, subst, arith, append-nil, length-append}
use Rattle.std.proofs.lemmas.{Grind.{flat_map-append}, List.{map-append}}
use Rattle.std.specs.{Prelude.{Option}, List.{AllByRecursion}}
use Rattle.loop_core_model.specs.{Split.{split_fault}, Gather.{gather_fault}, Intervals.{blocks_of}}
use Rattle.loop_board.specs.{History.{Legal}, Seats.{BoardId, SeatRecord, new_seat, histories}}
use Rattle.loop_core_block.specs.{Blocks.{BlockOf}, Loops.{LoopOf}, LoopBlocks.{RecordsRunOf}, Ran.{as_gathered}}
use Rattle.spec_run_workers.{specs.Worked.{Worked}, proofs.{StillWorks.{all_append}, CompleteLaws.{each_runs}}}
use Rattle.spec_run_workers.specs.CompleteLaw.{WorkerOf, seats_of, IsWorkerOf, WorkersComplete}
use Rattle.spec_run_workers.specs.Workers.{IsWorkerAt, AreOfWorkers}

-- what holds of each image by index holds of all images
pub images_all : {A B : Type 0} (P : B → Type 0) (f : A → B) (xs : List A) → All (λ x. P (f x)) xs
    → AllByRecursion P (map f xs)
images_all P f [] all = tt
images_all P f (x ∷ xs) all = (all 0 x (omega arith), images_all P f xs (λ k d below. all (suc k) d (omega arith)))

pub not_both : {A : Type 0} (o : Option A) (a : A) → o ≡ None → o ≡ Some a → ⊥
not_both o a is_none is_some = let both : None ≡ Some a = sym is_none ∙ is_some in cc

module _ (l : LoopOf) (board : BoardId) where
  -- one worker, from a new seat on
  pub worker_at : (old : SeatRecord) (w : WorkerOf) → old ≡ new_seat board → Worked l.bounds old w.seat w.blocks
      → AllByRecursion (RecordsRunOf l) w.blocks → IsWorkerAt l board w
  worker_at old w fresh worked ran =
      let here : w.seat.board ≡ board = rw (worked.did.board, fresh) in
      let same : old ≡ new_seat w.seat.board = fresh ∙ ap new_seat (sym here) in
      record {
        worker = record {
          worked = subst (λ (s : SeatRecord). Worked l.bounds s w.seat w.blocks) same worked;
          ran = ran;
        };
        at_board = here;
      }

  -- one more
  pub one_more : (number next : ℕ) (seats all_seats : List SeatRecord) (blocks all_blocks : List BlockOf) (w : WorkerOf)
      → AreOfWorkers l board number seats blocks → IsWorkerAt l board w → number + 1 ≡ next
      → all_seats ≡ seats ++ w.seat ∷ [] → all_blocks ≡ blocks ++ w.blocks
      → AreOfWorkers l board next all_seats all_blocks
  one_more number next seats all_seats blocks all_blocks w are is next_is seats_are blocks_are = record {
    workers = are.workers ++ w ∷ [];
    are = all_append (IsWorkerAt l board) are.workers (w ∷ []) are.are (is, tt);
    count = rw (length-append are.workers (w ∷ []), are.count) next_is;
    seats_are = rw (seats_are, are.seats_are) (sym (map-append (λ (v : WorkerOf). v.seat) are.workers (w ∷ [])));
    blocks_are = rw (
      blocks_are,
      are.blocks_are,
      flat_map-append (λ (v : WorkerOf). v.blocks) are.workers (w ∷ []),
      append-nil w.blocks,
    );
  }

  each_worker : (workers : List WorkerOf) → AllByRecursion (IsWorkerAt l board) workers
      → AllByRecursion (IsWorkerOf l.test l.program l.call l.start.words l.bounds) workers
  each_worker [] are = tt
  each_worker (w ∷ workers) are = (are.0.worker, each_worker workers are.1)

  each_board : (workers : List WorkerOf) → AllByRecursion (IsWorkerAt l board) workers
      → All (λ (s : SeatRecord). s.board ≡ board) (seats_of workers)
  each_board [] are k d below = absurd (omega arith)
  each_board (w ∷ workers) are zero d below = are.0.at_board
  each_board (w ∷ workers) are (suc k) d below = each_board workers are.1 k d (omega arith)

  module _ (number : ℕ) (seats : List SeatRecord) (blocks : List BlockOf) (are : AreOfWorkers l board number seats
      blocks) where
    -- their seats are of the board
    pub boards : All (λ (s : SeatRecord). s.board ≡ board) seats
    boards = rw are.seats_are (each_board are.workers are.are)

    -- their blocks were run
    pub ran : AllByRecursion (RecordsRunOf l) blocks
    ran = rw are.blocks_are (each_runs l.test l.program l.call l.start.words l.bounds are.workers
        (each_worker are.workers are.are))

    -- and are complete
    pub complete : WorkersComplete → split_fault l.bounds l.call.n ≡ None → l.call.n ≤ 8388608 → 0 < number
        → (claimed all : ℕ) → all ≡ blocks_of l.bounds →
        Legal all claimed (histories seats) → gather_fault l.bounds (map (as_gathered l.program l.call l.start.words)
        blocks) ≡ None
    complete law fine few some claimed all same legal =
        rw are.blocks_are (law l.test l.program l.call l.start.words l.bounds claimed are.workers fine few
        (rw are.count some) (rw (same, are.seats_are) at legal) (each_worker are.workers are.are))
