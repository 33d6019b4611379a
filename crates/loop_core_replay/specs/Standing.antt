-- Workers and what they share, while a list of events goes by.
use Rattle.std.specs.Prelude.{ℕ, ◌<◌, ◌≤◌, List, map, slice_index_or}
use Rattle.loop_core_model.specs.{Intervals.{blocks_of, end_of}, Schedule.{ScheduleState}}
use Rattle.loop_core_model.specs.Events as events
use Rattle.loop_core_replay.specs.declared.worker.{Worker.{Worker}, Shared.{Shared}}
use Rattle.loop_core_replay.specs.declared.worker.Worker.TheVariants.{Idle, Holding, Running, Posting, Drained, Stopped}

-- what a worker does, as schedules say it
abbrev pub schedule_worker : Worker → events.Worker
schedule_worker Idle = events.Idle
schedule_worker (Holding block) = events.Holding block
schedule_worker (Running block index) = events.Running block index
schedule_worker (Posting index) = events.Posting index
schedule_worker Drained = events.Drained
schedule_worker Stopped = events.Stopped

-- what is shared, where these blocks were run
abbrev pub shared_of : Shared → List ℕ → events.Shared
shared_of shared runs = record { next = shared.next; least = shared.least; runs = runs }

-- what is shared, and what each worker does
pub record Standing : Type 0 where
  pub shared : Shared
  pub workers : List Worker

-- the state of a schedule, where these blocks were run, the latest first
abbrev pub state : Standing → List ℕ → ScheduleState
state standing runs = record { shared = shared_of standing.shared runs; workers = map schedule_worker standing.workers }

-- a worker's block is one of the split's, and its index one of the block's
abbrev pub WorkerFits : List ℕ → Worker → Type 0
WorkerFits bounds Idle = Unit {0}
WorkerFits bounds (Holding block) = block < blocks_of bounds
WorkerFits bounds (Running block index) = (block < blocks_of bounds) × (index < end_of bounds block)
WorkerFits bounds (Posting index) = Unit {0}
WorkerFits bounds Drained = Unit {0}
WorkerFits bounds Stopped = Unit {0}

-- they share the blocks of this split
pub record WorkersFit (bounds : List ℕ) (standing : Standing) : Type 0 where
  pub next : standing.shared.next ≤ blocks_of bounds
  pub each : (number : ℕ) → WorkerFits bounds (slice_index_or standing.workers number Idle)
