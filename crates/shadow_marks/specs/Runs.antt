-- Elements that follow each other.
use Rattle.std.specs.Prelude.{◌≡◌, ℕ, Bool, not, ◌&&◌, nat_lt, if◌then◌else◌, List, length, slice_index}

-- an element is one of those from a first one up to, and without, another
abbrev pub is_between : (first past e : ℕ) → Bool
is_between first past e = not (nat_lt e first) && nat_lt e past

-- numbers after theirs were set to one number
pub record SetsRun (old new : List ℕ) (first past number : ℕ) : Type 0 where
  pub count : length new ≡ length old
  pub numbers : (k : ℕ) → slice_index new k ≡ (if is_between first past k then number else slice_index old k)
