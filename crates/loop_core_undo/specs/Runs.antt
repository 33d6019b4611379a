-- Entries of a list that follow each other.
use Rattle.std.specs.Prelude.{◌≡◌, ℕ, ◌<◌, ◌≤◌, List, length, slice_index_or}

-- a list, read as d past its end, after those from a first one up to another were set, each to what is said of it
pub record RunIsSet {X : Type 0} (old new : List X) (d : X) (first end : ℕ) (entry : ℕ → X) : Type 0 where
  pub count : length new ≡ length old
  pub inside : (e : ℕ) → first ≤ e → e < end → slice_index_or new e d ≡ entry e
  pub below : (e : ℕ) → e < first → slice_index_or new e d ≡ slice_index_or old e d
  pub above : (e : ℕ) → end ≤ e → slice_index_or new e d ≡ slice_index_or old e d
