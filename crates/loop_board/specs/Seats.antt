-- What contracts see of a board and of its seats.
use Rattle.std.specs.Prelude.{ℕ, ◌<◌, ◌≤◌, true, List, [], ◌∷◌, ◌++◌, map}
use Rattle.atomic_table.specs.Seated.{TableId}
use Rattle.loop_board.specs.History.{History, nothing_done}

-- which board it is, and how many blocks and workers it is for
pub record BoardId : Type 0 where
  pub table : TableId
  pub blocks : ℕ
  pub workers : ℕ

-- a seat: the board that it belongs to, and what it did there
pub record SeatRecord : Type 0 where
  pub board : BoardId
  pub history : History

-- a board has 1 to 64 blocks and 1 to 16 workers
pub record IsWithinLimits (blocks workers : ℕ) : Type 0 where
  pub some_block : 0 < blocks
  pub few_blocks : blocks ≤ 64
  pub some_worker : 0 < workers
  pub few_workers : workers ≤ 16

-- a seat of the board that has done nothing yet
abbrev pub new_seat : BoardId → SeatRecord
new_seat b = record { board = b; history = nothing_done }

-- the seat after it drew the block
abbrev pub after_draw : SeatRecord → ℕ → SeatRecord
after_draw s block = record s { history = record s.history { draws = s.history.draws ++ block ∷ [] } }

-- the seat after it found that no block was left
abbrev pub after_none : SeatRecord → SeatRecord
after_none s = record s { history = record s.history { found_none = true } }

-- the seat after a look with this answer
abbrev pub after_look : SeatRecord → ℕ → SeatRecord
after_look s answer = record s { history = record s.history { looks = s.history.looks ++ answer ∷ [] } }

-- the seat after it posted the index
abbrev pub after_post : SeatRecord → ℕ → SeatRecord
after_post s index = record s { history = record s.history { posts = s.history.posts ++ index ∷ [] } }

-- what the seats did
abbrev pub histories : List SeatRecord → List History
histories seats = map (λ (s : SeatRecord). s.history) seats
