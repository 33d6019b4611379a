-- What a vector has, and what a kernel leaves in a list.
use Rattle.std.specs.Prelude.{◌≡◌, ℕ, ◌<◌, ◌≤◌, List, length, slice_index}

-- a vector of n lanes, each of which a rule gives by its number
pub record HasLanes (many : ℕ) (rule : ℕ → ℕ) (lanes : List ℕ) : Type 0 where
  pub count : length lanes ≡ many
  pub each : (k : ℕ) → k < many → slice_index lanes k ≡ rule k

-- the numbers from one index up to another are those that a rule gives by index, and the others are as they were
pub record Writes (rule : ℕ → ℕ) (from upto : ℕ) (old now : List ℕ) : Type 0 where
  pub long : length now ≡ length old
  pub written : (i : ℕ) → from ≤ i → i < upto → slice_index now i ≡ rule i
  pub below : (i : ℕ) → i < from → slice_index now i ≡ slice_index old i
  pub above : (i : ℕ) → upto ≤ i → slice_index now i ≡ slice_index old i
