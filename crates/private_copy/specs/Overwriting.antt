-- Words of a page, where some of them are set to what was left there.
use Rattle.std.specs.{Prelude.{◌≡◌, ℕ, ◌<◌, ◌≤◌, List, slice_index, Option}, Option.{unwrap_or}}

-- each of the first n words is the last value of its place, or as it was if there is none; the rest stay
pub record AreOverwritten (last : ℕ → Option ℕ) (count : ℕ) (old new : List ℕ) : Type 0 where
  pub inside : (k : ℕ) → k < count → slice_index new k ≡ unwrap_or (last k) (slice_index old k)
  pub past : (k : ℕ) → count ≤ k → slice_index new k ≡ slice_index old k
