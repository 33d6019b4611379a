-- Every ended list of events leaves a complete list of blocks.
use Rattle.std.specs.{Prelude.{◌≡◌, ℕ, true, List, map, None, Ok}, List.{AllByRecursion}}
use Rattle.bpf_insn_types.specs.Program.{Program}
use Rattle.bpf_step_model.specs.State.{LoopCall}
use Rattle.loop_core_model.specs.{LeastBreak.{least_break}, Split.{split_fault}, declared.event.Event.{Event}}
use Rattle.loop_core_model.specs.{Gather.{Block, IsRunOf, least_of, stands_in, gather_fault}, Intervals.{blocks_of}}
use Rattle.loop_core_model.specs.{Events.{Shared}, Schedule.{ScheduleState, replay}, Outcome.{breaks_at}}

-- these are the blocks of a split that have these numbers, each run up to its first break or to its end
pub record AreRun (program : Program) (bound : ℕ) (call : LoopCall) (words : List ℕ) (bounds : List ℕ)
    (numbers : List ℕ) (blocks : List Block) : Type 0 where
  pub numbered : map (λ (b : Block). b.number) blocks ≡ numbers
  pub stand : AllByRecursion (λ b. stands_in bounds b ≡ true) blocks
  pub run : AllByRecursion (IsRunOf program bound call words) blocks

-- what is known of those blocks: none is missing, doubled or foreign; and the least break that was posted is the least
-- of theirs, and the loop's
pub record Complete (program : Program) (bound : ℕ) (call : LoopCall) (words : List ℕ) (bounds : List ℕ)
    (shared : Shared) (blocks : List Block) : Type 0 where
  pub gathered : gather_fault bounds blocks ≡ None
  pub least_of_blocks : shared.least ≡ least_of blocks
  pub least_of_loop : shared.least ≡ least_break program bound call words

-- what is known at the end: every block was taken, and those that were run are complete
pub record Left (program : Program) (bound : ℕ) (call : LoopCall) (words : List ℕ) (bounds : List ℕ)
    (shared : Shared) : Type 0 where
  pub taken : shared.next ≡ blocks_of bounds
  pub complete : (blocks : List Block) → AreRun program bound call words bounds shared.runs blocks
      → Complete program bound call words bounds shared blocks

-- whatever the workers do, in whatever order, an ended list leaves that
abbrev pub EndedSchedulesComplete : Type 0
EndedSchedulesComplete = (program : Program) (bound : ℕ) (call : LoopCall) (words : List ℕ) (bounds : List ℕ)
    (events : List Event) (state : ScheduleState) →
    split_fault bounds call.n ≡ None → replay (breaks_at program bound call words) bounds events ≡ Ok state →
    Left program bound call words bounds state.shared
