-- What is wrong with blocks of a split that were run, and which of them count.
use Rattle.std.specs.Prelude.{◌≡◌, ℕ, ◌+◌, Bool, false, not, ◌&&◌, ◌||◌, ◌==◌, is_some, is_none, if◌then◌else◌, List, []}
use Rattle.std.specs.{Prelude.{◌∷◌, slice_get, Option, Some, None}, List.{list_any, position_from}}
use Rattle.loop_core_model.specs.declared.faults.GatherFault.{GatherFault, TheVariants.{Missing, Twice, Foreign}}
use Rattle.loop_core_model.specs.{LeastBreak.{lesser}, Gather.{starts_late, is_bound}}
use Rattle.loop_core_block.specs.Blocks.{BlockOf}

-- the least break
abbrev pub least_broke : List BlockOf → Option ℕ
least_broke [] = None
least_broke (b ∷ blocks) = lesser b.broke (least_broke blocks)

-- the place of the first block of a number, if there is one
abbrev pub place_of : List BlockOf → (number : ℕ) → Option ℕ
place_of blocks number = position_from (λ (b : BlockOf). b.number == number) 0 blocks

-- a number appears twice
abbrev pub has_twins : List BlockOf → Bool
has_twins [] = false
has_twins (b ∷ blocks) = is_some (place_of blocks b.number) || has_twins blocks

-- an interval is the split's
abbrev pub is_in_split : List ℕ → BlockOf → Bool
is_in_split bounds b = is_bound (slice_get bounds b.number) b.first && is_bound (slice_get bounds (b.number + 1)) b.past

-- a place in front of others, where all are there
abbrev pub with_place : Option ℕ → Option (List ℕ) → Option (List ℕ)
with_place None places = None
with_place (Some place) None = None
with_place (Some place) (Some places) = Some (place ∷ places)

-- from a block's number and first index on, the places of the blocks that don't start past the least break, where all
-- of them are there
abbrev pub order_from : Option ℕ → List BlockOf → (number first : ℕ) → List ℕ → Option (List ℕ)
order_from least blocks number first [] = Some []
order_from least blocks number first (past ∷ bounds) =
    if starts_late least first then order_from least blocks (number + 1) past bounds
    else with_place (place_of blocks number) (order_from least blocks (number + 1) past bounds)

-- the places of the blocks of a whole split that don't start past the least break, if all of them are there
abbrev pub order_of : Option ℕ → List BlockOf → List ℕ → Option (List ℕ)
order_of least blocks [] = Some []
order_of least blocks (first ∷ bounds) = order_from least blocks 0 first bounds

-- what is wrong with blocks of a split: the least number of G1 to G3
abbrev pub blocks_fault : List ℕ → List BlockOf → Option GatherFault
blocks_fault bounds blocks =
    if is_none (order_of (least_broke blocks) blocks bounds) then Some Missing
    else if has_twins blocks then Some Twice
    else if list_any (λ (b : BlockOf). not (is_in_split bounds b)) blocks then Some Foreign
    else None

-- blocks have none of G1 to G3, this is their least break, and those that count are at these places, in order
pub record Counts (bounds : List ℕ) (blocks : List BlockOf) (least : Option ℕ) (places : List ℕ) : Type 0 where
  pub faultless : blocks_fault bounds blocks ≡ None
  pub least_is : least ≡ least_broke blocks
  pub in_order : order_of least blocks bounds ≡ Some places
