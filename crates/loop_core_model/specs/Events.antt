-- What the workers of a loop may do, and what each event does. `breaks` says of each index whether its iteration on the
-- words as they stood when the loop began returns 1.
use Rattle.std.specs.Prelude.{ℕ, ◌+◌, ◌==◌, nat_lt, Bool, if◌then◌else◌, List, ◌∷◌, Option, Some, None}
use Rattle.loop_core_model.specs.{LeastBreak.{lesser}, Gather.{starts_late}, declared.event.EventKind.{EventKind}}
use Rattle.loop_core_model.specs.declared.event.EventKind.TheVariants.{Claim, Look, Turn, Post, Stop}
use Rattle.loop_core_model.specs.Intervals.{blocks_of, start_of, end_of}

-- what a worker is doing: it holds a block that it hasn't begun, runs one and has this index before it, has a break to
-- post, or found no block
pub data Worker : Type 0 where
  Idle : Worker
  Holding : (block : ℕ) → Worker
  Running : (block index : ℕ) → Worker
  Posting : (index : ℕ) → Worker
  Drained : Worker
  Stopped : Worker

-- what the workers share: the next block and the least break that was posted; and the numbers of the blocks that were
-- run, up to a break or to their end, the latest first
pub record Shared : Type 0 where
  pub next : ℕ
  pub least : Option ℕ
  pub runs : List ℕ

-- a worker and what it shares
pub record Moved : Type 0 where
  pub worker : Worker
  pub shared : Shared

-- what a worker becomes, with what is shared
abbrev pub becomes : Worker → Shared → Moved
becomes worker shared = record { worker = worker; shared = shared }

-- the same, having run a block
abbrev pub having_run : ℕ → Worker → Shared → Moved
having_run block worker shared =
    becomes worker (record { next = shared.next; least = shared.least; runs = block ∷ shared.runs })

-- takes the next block and holds it; where none is left it is drained
abbrev pub claims : List ℕ → Shared → Moved
claims bounds shared =
    if nat_lt shared.next (blocks_of bounds)
    then becomes (Holding shared.next) (record { next = shared.next + 1; least = shared.least; runs = shared.runs })
    else becomes Drained shared

-- reads the least break: where the block starts past it the block is skipped; else it is run from its start, which an
-- empty block is at once
abbrev pub looks : List ℕ → ℕ → Shared → Moved
looks bounds block shared =
    if starts_late shared.least (start_of bounds block) then becomes Idle shared
    else if start_of bounds block == end_of bounds block then having_run block Idle shared
    else becomes (Running block (start_of bounds block)) shared

-- does an iteration: where it returns 1 the block broke, and the index is to be posted; after the last one the block
-- has been run
abbrev pub iterates : (ℕ → Bool) → List ℕ → (block index : ℕ) → Shared → Moved
iterates breaks bounds block index shared =
    if breaks index then having_run block (Posting index) shared
    else if index + 1 == end_of bounds block then having_run block Idle shared
    else becomes (Running block (index + 1)) shared

-- the least break becomes the lesser of both
abbrev pub posts : ℕ → Shared → Moved
posts index shared = becomes Idle (record {
  next = shared.next;
  least = lesser (Some index) shared.least;
  runs = shared.runs;
})

-- which events are enabled, and what each does
abbrev pub transition : (ℕ → Bool) → List ℕ → EventKind → Worker → Shared → Option Moved
transition breaks bounds Claim Idle shared = Some (claims bounds shared)
transition breaks bounds Look (Holding block) shared = Some (looks bounds block shared)
transition breaks bounds Turn (Running block index) shared = Some (iterates breaks bounds block index shared)
transition breaks bounds Post (Posting index) shared = Some (posts index shared)
transition breaks bounds Stop Drained shared = Some (becomes Stopped shared)
transition breaks bounds kind worker shared = None
