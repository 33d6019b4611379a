-- Who drew which block.
use Rattle.std.specs.Prelude.{◌≡◌, ℕ, ◌<◌, true, List, length, slice_index_or}
use Rattle.loop_board.specs.{Sums.{times}, History.{History, Legal, nothing_done}}

-- how often a seat drew a block
abbrev pub drawn_by : List History → (seat block : ℕ) → ℕ
drawn_by hs seat block = times block (slice_index_or hs seat nothing_done).draws

-- of legal histories: some seat drew each block that was claimed; what a seat drew was claimed, and it drew it once,
-- and no later seat did; where a seat found none, all blocks were claimed
pub record DrawnByOneSeat (blocks claimed : ℕ) (hs : List History) : Type 0 where
  pub some : (block : ℕ) → block < claimed → (seat : ℕ) × (seat < length hs) × (0 < drawn_by hs seat block)
  pub once : (seat block : ℕ) → seat < length hs → 0 < drawn_by hs seat block → (block < claimed)
      × (drawn_by hs seat block ≡ 1)
  pub alone : (seat later block : ℕ) → seat < later → later < length hs → 0 < drawn_by hs seat block
      → drawn_by hs later block ≡ 0
  pub all : (seat : ℕ) → seat < length hs → (slice_index_or hs seat nothing_done).found_none ≡ true → claimed ≡ blocks

-- so it is of all legal histories
abbrev pub LegalDraws : Type 0
LegalDraws = (blocks claimed : ℕ) (hs : List History) → Legal blocks claimed hs → DrawnByOneSeat blocks claimed hs
