-- The seat that took in all others: what it knows of them, and of the two words at the end.
use Rattle.std.specs.Prelude.{◌≡◌, ℕ, ◌<◌, ◌≤◌, ◌⊎◌, List, length, IsTrue}
use Rattle.loop_board.specs.{declared.view.{Extent.{Extent}, SeatView.{SeatView}}, Sums.{times, once_below}}
use Rattle.loop_board.specs.History.{no_post, IsIndexOrNone, IsLeast, times_drawn, times_posted, times_seen}
use Rattle.loop_board.specs.{History.{some_found_none}, Seats.{SeatRecord, histories}}

-- the view has what all of these seats did, and a part for each
pub record IsWhole (v : SeatView) (seats : List SeatRecord) : Type 0 where
  pub parts : v.parts ≡ length seats
  pub nones : IsTrue (some_found_none (histories seats)) → 0 < v.nones
  pub draws : (x : ℕ) → times x v.draws ≡ times_drawn x (histories seats)
  pub posts : (x : ℕ) → times x v.posts ≡ times_posted x (histories seats)
  pub looks : (x : ℕ) → times x v.looks ≡ times_seen x (histories seats)

-- the view has every part, and so these are the blocks that were drawn and the least index that was posted
pub record IsTally (e : Extent) (v : SeatView) (claimed least : ℕ) : Type 0 where
  pub within : claimed ≤ e.blocks
  pub parts : v.parts ≡ e.workers
  pub drained : 0 < v.nones → claimed ≡ e.blocks
  pub draws : (x : ℕ) → times x v.draws ≡ once_below x claimed
  pub index : IsIndexOrNone least
  pub posts : IsLeast least (λ x. times x v.posts)
  pub looks : (x : ℕ) → 0 < times x v.looks → (x ≡ no_post) ⊎ (0 < times x v.posts)
