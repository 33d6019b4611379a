-- The rule of the two words: how they and the views of all seats hang together, and what its seat learns by each step.
-- Word 0 is the next block, and word 1 the least index posted.
use Rattle.std.specs.Prelude.{◌≡◌, ℕ, ◌+◌, ◌-◌, ◌<◌, ◌≤◌, ◌⊎◌, min, Bool, List, [], ◌∷◌, ◌++◌, All, if◌then◌else◌}
use mathlib.Core.Option.{some}
use lib.ListN.{get_elem?}
use Rattle.atomic_table.specs.{Seated.{TableId}, Table.{State, Me}}
use Rattle.loop_board.specs.{declared.view.{Extent.{Extent}, SeatView.{SeatView}}, Sums.{total, times, once_below}}
use Rattle.loop_board.specs.History.{no_post, most_index, IsIndexOrNone, IsLeast}
use Rattle.loop_board.specs.Seats.{BoardId, SeatRecord, IsWithinLimits}

-- the view of a seat that has n parts of the right to know the whole, and has done nothing yet
abbrev pub opening_view : Extent → ℕ → SeatView
opening_view e parts = record { extent = e; parts = parts; nones = 0; draws = []; posts = []; looks = [] }

-- what a seat leaves after that another took in: it holds nothing
abbrev pub spent_view : SeatView
spent_view = record {
  extent = record { blocks = 0; workers = 0 };
  parts = 0;
  nones = 0;
  draws = [];
  posts = [];
  looks = [];
}

-- how many parts these views have together
abbrev pub parts_of : List SeatView → ℕ
parts_of views = total (λ (v : SeatView). v.parts) views

-- how often these seats found none
abbrev pub nones_of : List SeatView → ℕ
nones_of views = total (λ (v : SeatView). v.nones) views

-- how often these seats drew the block x
abbrev pub drawn_in : ℕ → List SeatView → ℕ
drawn_in x views = total (λ (v : SeatView). times x v.draws) views

-- how often these seats posted the index x
abbrev pub posted_in : ℕ → List SeatView → ℕ
posted_in x views = total (λ (v : SeatView). times x v.posts) views

-- how often the looks of these seats answered x
abbrev pub seen_in : ℕ → List SeatView → ℕ
seen_in x views = total (λ (v : SeatView). times x v.looks) views

-- a view holds nothing, or is of a seat of this board, which found none at most once for each of its parts
abbrev pub ViewFits : Extent → SeatView → Type 0
ViewFits e v = (v ≡ spent_view) ⊎ ((v.extent ≡ e) × (0 < v.parts) × (v.nones ≤ v.parts))

-- the words and the views hang together
pub record Agrees (e : Extent) (next least : ℕ) (views : List SeatView) : Type 0 where
  pub fits : (k : ℕ) (v : SeatView) → get_elem? views k ≡ some v → ViewFits e v
  pub parts : parts_of views ≡ e.workers
  pub draws : (x : ℕ) → drawn_in x views ≡ once_below x (min next e.blocks)
  pub room : next ≤ e.blocks + nones_of views
  pub drained : 0 < nones_of views → e.blocks ≤ next
  pub posts : IsLeast least (λ x. posted_in x views)
  pub indices : (x : ℕ) → 0 < posted_in x views → x ≤ most_index
  pub looks : (x : ℕ) → 0 < seen_in x views → (x ≡ no_post) ⊎ (0 < posted_in x views)

-- the rule of a board of this extent
pub record BoardInvariant (e : Extent) (s : State (Unit {0}) SeatView) : Type 0 where
  pub next : ℕ
  pub least : ℕ
  pub words : s.words ≡ next ∷ least ∷ []
  pub views : Agrees e next least s.views

-- the view with one more block drawn
abbrev pub with_draw : SeatView → ℕ → SeatView
with_draw v block = record v { draws = v.draws ++ block ∷ [] }

-- the view of a seat that found none once more
abbrev pub with_none : SeatView → SeatView
with_none v = record v { nones = v.nones + 1 }

-- the view with one more answer of a look
abbrev pub with_look : SeatView → ℕ → SeatView
with_look v answer = record v { looks = v.looks ++ answer ∷ [] }

-- the view with one more index posted
abbrev pub with_post : SeatView → ℕ → SeatView
with_post v index = record v { posts = v.posts ++ index ∷ [] }

-- a claim draws the number found, which is above all that the seat drew; past the last block it finds none
pub record Claims (v : SeatView) (found : ℕ) (w : SeatView) : Type 0 where
  pub above : All (λ x. x < found) v.draws
  pub draws : found < v.extent.blocks → w ≡ with_draw v found
  pub drains : v.extent.blocks ≤ found → w ≡ with_none v

-- a look sees the number found, an index or 4,294,967,295, which is above nothing that the seat posted or saw
pub record Looks (v : SeatView) (found : ℕ) (w : SeatView) : Type 0 where
  pub most : found ≤ no_post
  pub index : IsIndexOrNone found
  pub posts : All (λ x. found ≤ x) v.posts
  pub looks : All (λ x. found ≤ x) v.looks
  pub seen : w ≡ with_look v found

-- a step of a seat that holds no slot, which turns its view by R
abbrev pub Turns : (SeatView → ℕ → SeatView → Type 0) → Me (Unit {0}) SeatView → ℕ → Me (Unit {0}) SeatView → Type 0
Turns R me found me' = R me.0 found me'.0 × (me'.1 ≡ me.1)

-- one part is given away by a seat
abbrev pub less_a_part : SeatView → SeatView
less_a_part v = record v { parts = v.parts - 1 }

-- what two seats know, as one
abbrev pub together : SeatView → SeatView → SeatView
together v w = record {
  extent = v.extent;
  parts = v.parts + w.parts;
  nones = v.nones + w.nones;
  draws = v.draws
      ++ w.draws;
  posts = v.posts ++ w.posts;
  looks = v.looks ++ w.looks;
}

-- what contracts see of a board of this table and extent
abbrev pub board_id_of : TableId → Extent → BoardId
board_id_of t e = record { table = t; blocks = e.blocks; workers = e.workers }

-- what contracts see of a seat of this table, whose view this is
abbrev pub seat_record : TableId → SeatView → Bool → SeatRecord
seat_record t v drained = record {
  board = board_id_of t v.extent;
  history = record {
    draws = v.draws;
    found_none = drained;
    posts = v.posts;
    looks = v.looks;
  };
}

-- the seat of a worker has one part, and found none once at most
pub record IsWorkers (v : SeatView) (drained : Bool) : Type 0 where
  pub parts : v.parts ≡ 1
  pub nones : v.nones ≡ (if drained then 1 else 0)

-- the table of a board has two words and no slot, and its key is the extent, which is within the limits
pub record IsBoards (t : TableId) (key extent : Extent) : Type 0 where
  pub words : t.words ≡ 2
  pub slots : t.slots ≡ 0
  pub same : key ≡ extent
  pub limits : IsWithinLimits extent.blocks extent.workers
