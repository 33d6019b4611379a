-- Splits of a loop into blocks: bounds, of which each two neighbours are a block's interval.
use Rattle.std.specs.Prelude.{◌≡◌, ℕ, ◌+◌, ◌*◌, ◌/◌, ◌≤◌, ◌<◌, Bool, false, not, ◌||◌, ◌==◌, nat_lt, if◌then◌else◌}
use Rattle.std.specs.{Prelude.{List, [], ◌∷◌, map, length, Option, Some, None}, List.{range_with_len}}
use Rattle.loop_core_model.specs.declared.faults.SplitFault.{SplitFault, TheVariants.{Falling, Number, Ends}}

-- a bound is below the one before
abbrev pub falls : ℕ → List ℕ → Bool
falls before [] = false
falls before (bound ∷ bounds) = nat_lt bound before || falls bound bounds

-- the last bound
abbrev pub last_bound : ℕ → List ℕ → ℕ
last_bound bound [] = bound
last_bound before (bound ∷ bounds) = last_bound bound bounds

-- the first isn't 0, or the last isn't n
abbrev pub ends_amiss : List ℕ → ℕ → Bool
ends_amiss [] n = false
ends_amiss (first ∷ bounds) n = not (first == 0) || not (last_bound first bounds == n)

-- what is wrong with bounds as a split of n iterations: the least number of S1 to S3
abbrev pub split_fault : List ℕ → ℕ → Option SplitFault
split_fault bounds n =
    if falls 0 bounds then Some Falling
    else if nat_lt (length bounds) 2 || nat_lt 65 (length bounds) then Some Number
    else if ends_amiss bounds n then Some Ends
    else None

-- bound k of an even split is k * n / blocks, rounded down
abbrev pub even_bounds : (n blocks : ℕ) → List ℕ
even_bounds n blocks = map (λ k. k * n / blocks) (range_with_len 0 (blocks + 1))

-- an even split of n iterations into 1 to 64 blocks is one; into none or into more, it has too few bounds or too many
pub record EvenIsSplit : Type 0 where
  pub split : (n blocks : ℕ) → 1 ≤ blocks → blocks ≤ 64 → split_fault (even_bounds n blocks) n ≡ None
  pub none : (n : ℕ) → split_fault (even_bounds n 0) n ≡ Some Number
  pub more : (n blocks : ℕ) → 64 < blocks → split_fault (even_bounds n blocks) n ≡ Some Number
