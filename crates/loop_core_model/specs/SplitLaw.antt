-- Splits are partitions of a loop's indices.
use Rattle.std.specs.Prelude.{◌≡◌, ℕ, ◌<◌, ◌≤◌, List, None}
use Rattle.loop_core_model.specs.{Split.{split_fault}, Intervals.{blocks_of, start_of, end_of}}

-- a block has an index
pub record HasIndex (bounds : List ℕ) (block index : ℕ) : Type 0 where
  pub block_within : block < blocks_of bounds
  pub started : start_of bounds block ≤ index
  pub not_ended : index < end_of bounds block

-- each index below n is in a block, and in no other, and the blocks have no index that isn't below n
pub record Partition (n : ℕ) (bounds : List ℕ) : Type 0 where
  pub each : (index : ℕ) → index < n → (block : ℕ) × HasIndex bounds block index
  pub once : (block other index : ℕ) → HasIndex bounds block index → HasIndex bounds other index → block ≡ other
  pub inside : (block index : ℕ) → HasIndex bounds block index → index < n

-- bounds without a fault are a partition
abbrev pub SplitsPartition : Type 0
SplitsPartition = (n : ℕ) (bounds : List ℕ) → split_fault bounds n ≡ None → Partition n bounds
