-- Blocks that were run, gathered: which of them count, and whether all of those are there.
use Rattle.std.specs.Prelude.{◌≡◌, ℕ, ◌+◌, Bool, false, not, ◌&&◌, ◌||◌, ◌==◌, nat_lt, is_none, if◌then◌else◌, List, []}
use Rattle.std.specs.{Prelude.{◌∷◌, map, slice_get, Option, Some, None}, List.{find, list_any, AllByRecursion}}
use Rattle.bpf_insn_types.specs.Program.{Program}
use Rattle.bpf_step_model.specs.{State.{LoopCall}, Run.{Ended}, Iteration.{Iterated}}
use Rattle.loop_core_model.specs.{Actions.{joined}, LeastBreak.{lesser, least_break, counted_iterations, all_ended}}
use Rattle.loop_core_model.specs.declared.faults.GatherFault.{GatherFault, TheVariants.{Missing, Twice, Foreign}}
use Rattle.loop_core_model.specs.{Block.{block_run, break_from}, Split.{split_fault}}

-- a block that was run: its number in the split, its interval, and its iterations on the start words
pub record Block : Type 0 where
  pub number : ℕ
  pub first : ℕ
  pub past : ℕ
  pub ran : List Iterated

-- it was run so
abbrev pub IsRunOf : Program → ℕ → LoopCall → List ℕ → Block → Type 0
IsRunOf program bound call words b = block_run program bound call words b.first b.past ≡ Ended b.ran

-- the least break of some blocks
abbrev pub least_of : List Block → Option ℕ
least_of [] = None
least_of (b ∷ blocks) = lesser (break_from b.first b.ran) (least_of blocks)

-- a block starts past the least break
abbrev pub starts_late : Option ℕ → ℕ → Bool
starts_late None first = false
starts_late (Some least) first = nat_lt least first

-- the block of this number, if it is there
abbrev pub block_numbered : ℕ → List Block → Option Block
block_numbered number blocks = find (λ (b : Block). b.number == number) blocks

-- from a block's number and first index on: one that doesn't start past the least break isn't there
abbrev pub lacks_block : Option ℕ → List Block → (number first : ℕ) → List ℕ → Bool
lacks_block least blocks number first [] = false
lacks_block least blocks number first (past ∷ bounds) =
    (not (starts_late least first) && is_none (block_numbered number blocks)) || lacks_block least blocks (number + 1)
    past bounds

-- a block in front of others, where it is there
abbrev pub in_front : Option Block → List Block → List Block
in_front None blocks = blocks
in_front (Some b) blocks = b ∷ blocks

-- the blocks that count, in order: those that don't start past the least break
abbrev pub counting : Option ℕ → List Block → (number first : ℕ) → List ℕ → List Block
counting least blocks number first [] = []
counting least blocks number first (past ∷ bounds) =
    in_front (if starts_late least first then None else block_numbered number blocks)
    (counting least blocks (number + 1) past bounds)

-- some block of a split isn't there that doesn't start past the least break of those that are
abbrev pub lacks_some : List ℕ → List Block → Bool
lacks_some [] blocks = false
lacks_some (first ∷ bounds) blocks = lacks_block (least_of blocks) blocks 0 first bounds

-- a number appears twice
abbrev pub twice : List Block → Bool
twice [] = false
twice (b ∷ blocks) = list_any (λ (other : Block). other.number == b.number) blocks || twice blocks

-- a bound is there, and is this
abbrev pub is_bound : Option ℕ → ℕ → Bool
is_bound None index = false
is_bound (Some bound) index = bound == index

-- an interval is the split's
abbrev pub stands_in : List ℕ → Block → Bool
stands_in bounds b = is_bound (slice_get bounds b.number) b.first && is_bound (slice_get bounds (b.number + 1)) b.past

-- what is wrong with blocks of a split: the least number of G1 to G3
abbrev pub gather_fault : List ℕ → List Block → Option GatherFault
gather_fault bounds blocks =
    if lacks_some bounds blocks then Some Missing
    else if twice blocks then Some Twice
    else if list_any (λ (b : Block). not (stands_in bounds b)) blocks then Some Foreign
    else None

-- the iterations of the blocks of a split that count
abbrev pub gathered : List ℕ → List Block → List Iterated
gathered [] blocks = []
gathered (first ∷ bounds) blocks =
    joined (map (λ (b : Block). b.ran) (counting (least_of blocks) blocks 0 first bounds))

-- blocks of a split without a fault have the least break, and their iterations that count are the counted ones,
-- whichever other blocks were run
pub record Gathers (program : Program) (bound : ℕ) (call : LoopCall) (words : List ℕ) (bounds : List ℕ)
    (blocks : List Block) : Type 0 where
  pub break : least_of blocks ≡ least_break program bound call words
  pub iterations : all_ended (counted_iterations program bound call words) ≡ Ended (gathered bounds blocks)

abbrev pub BlocksGather : Type 0
BlocksGather = (program : Program) (bound : ℕ) (call : LoopCall) (words : List ℕ) (bounds : List ℕ)
    (blocks : List Block) →
    split_fault bounds call.n ≡ None → gather_fault bounds blocks ≡ None
    → AllByRecursion (IsRunOf program bound call words) blocks →
    Gathers program bound call words bounds blocks
