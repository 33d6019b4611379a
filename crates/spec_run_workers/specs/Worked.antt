-- What one worker does at its seat, and which blocks it runs.
use Rattle.std.specs.Prelude.{◌≡◌, ℕ, ◌<◌, ◌⊎◌, nat_lt, true, false, if◌then◌else◌, List, [], ◌∷◌, ◌++◌, map, length}
use Rattle.std.specs.{Option.{option_to_list}, List.{AllByRecursion, flat_map}}
use Rattle.bpf_insn_types.specs.Program.{Program}
use Rattle.bpf_step_model.specs.State.{LoopCall}
use Rattle.loop_core_model.specs.{declared.loop_test.Test.{Test}, Intervals.{blocks_of, start_of, end_of}}
use Rattle.loop_board.specs.Seats.{SeatRecord}
use Rattle.loop_core_block.specs.{Blocks.{BlockOf}, Ran.{RecordsRun}}

-- of the blocks claimed, in order, and of what the look after each answered: the numbers of those that are run, which
-- are all that don't start past that answer
abbrev pub runs_of : List ℕ → (draws looks : List ℕ) → List ℕ
runs_of bounds [] looks = []
runs_of bounds (number ∷ draws) [] = []
runs_of bounds (number ∷ draws) (answer ∷ looks) =
    if nat_lt answer (start_of bounds number) then runs_of bounds draws looks
    else number ∷ runs_of bounds draws looks

-- the numbers of blocks
abbrev pub worked_numbers : List BlockOf → List ℕ
worked_numbers blocks = map (λ (b : BlockOf). b.number) blocks

-- the indices at which blocks broke, in order
abbrev pub breaks_of : List BlockOf → List ℕ
breaks_of blocks = flat_map (λ (b : BlockOf). option_to_list b.broke) blocks

-- a block of a split has its interval
pub record StandsIn (bounds : List ℕ) (b : BlockOf) : Type 0 where
  pub within : b.number < blocks_of bounds
  pub first : b.first ≡ start_of bounds b.number
  pub past : b.past ≡ end_of bounds b.number

-- a seat of the same board that claimed, saw and posted this more, and nothing else
pub record DidMore (old new : SeatRecord) (draws looks posts : List ℕ) : Type 0 where
  pub board : new.board ≡ old.board
  pub drew : new.history.draws ≡ old.history.draws ++ draws
  pub saw : new.history.looks ≡ old.history.looks ++ looks
  pub posted : new.history.posts ≡ old.history.posts ++ posts

-- a whole worker: it looked once after each block claimed, ran those that don't start past the answer, in order,
-- posted their breaks, and found no more block
pub record Worked (bounds : List ℕ) (old new : SeatRecord) (blocks : List BlockOf) : Type 0 where
  pub draws : List ℕ
  pub looks : List ℕ
  pub did : DidMore old new draws looks (breaks_of blocks)
  pub each_look : length looks ≡ length draws
  pub numbers : worked_numbers blocks ≡ runs_of bounds draws looks
  pub intervals : AllByRecursion (StandsIn bounds) blocks
  pub drained : new.history.found_none ≡ true

-- a worker that ran out of memory at the last block that it claimed: it looked once after each block; of those before
-- the last it ran those that don't start past the answer, in order; the last doesn't start past its answer, and either
-- it wasn't run, or it was run and couldn't be kept; what was posted is the breaks of those that were run
pub record WorkerStopped (test : Test) (program : Program) (call : LoopCall) (words : List ℕ) (bounds : List ℕ)
    (old new : SeatRecord) : Type 0 where
  pub earlier : List ℕ
  pub seen : List ℕ
  pub last : ℕ
  pub answer : ℕ
  pub blocks : List BlockOf
  pub did : DidMore old new (earlier ++ last ∷ []) (seen ++ answer ∷ []) (breaks_of blocks)
  pub each_look : length seen ≡ length earlier
  pub on_time : nat_lt answer (start_of bounds last) ≡ false
  pub numbers : (worked_numbers blocks ≡ runs_of bounds earlier seen) ⊎ (worked_numbers blocks ≡ runs_of bounds earlier
      seen
      ++ last ∷ [])
  pub intervals : AllByRecursion (StandsIn bounds) blocks
  pub ran : AllByRecursion (RecordsRun test program call words) blocks
  pub kept : new.history.found_none ≡ old.history.found_none

-- what a worker does with a block claimed: it looks once, runs the block unless it starts past the answer, and
-- posts its break; `taken` is the block, where it was run
pub record Took (test : Test) (program : Program) (call : LoopCall) (words : List ℕ) (bounds : List ℕ) (number : ℕ)
    (old new : SeatRecord) (taken : List BlockOf) : Type 0 where
  pub answer : ℕ
  pub did : DidMore old new [] (answer ∷ []) (breaks_of taken)
  pub kept : new.history.found_none ≡ old.history.found_none
  pub numbers : worked_numbers taken ≡ runs_of bounds (number ∷ []) (answer ∷ [])
  pub intervals : AllByRecursion (StandsIn bounds) taken
  pub ran : AllByRecursion (RecordsRun test program call words) taken

-- what a worker does with one block that it claimed, if there is no memory to run it: it looks once, the block doesn't
-- start past the answer, and nothing is posted
pub record NotRun (bounds : List ℕ) (number : ℕ) (old new : SeatRecord) : Type 0 where
  pub answer : ℕ
  pub did : DidMore old new [] (answer ∷ []) []
  pub kept : new.history.found_none ≡ old.history.found_none
  pub on_time : nat_lt answer (start_of bounds number) ≡ false
