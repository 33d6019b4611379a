-- Loops that are watched up to an iteration that reads what was written.
use Rattle.std.specs.Prelude.{◌≡◌, ℕ, ◌+◌, ◌≤◌, if◌then◌else◌, length, Option, Some, None}
use Rattle.array_maps.specs.MapList.{MapList}
use Rattle.bpf_insn_types.specs.Program.{Program}
use Rattle.bpf_step_model.specs.State.{LoopCall}
use Rattle.loop_core_undo.specs.{declared.undo_log.UndoLog.{UndoLog}, Undo.{log_elements, words_before}}
use Rattle.loop_core_sequential.specs.declared.{progress.Progress.{Progress}, watched_loop.WatchedLoop.{WatchedLoop}}
use Rattle.loop_core_sequential.specs.{declared.watched_loop.WatchedLoop.TheVariants.{Passed, Dependent}, Rests.{RanTo}}
use Rattle.loop_core_sequential.specs.Watched.{RanAndPasses, ReachesWritten}

-- the loop's answer where the last iteration that ran broke it off
abbrev pub broke_with : Progress → Option ℕ
broke_with progress = if progress.broke then Some progress.done else None

-- from these start maps so many iterations ran in order, and left the maps so
abbrev pub RanSoFar : Program → LoopCall → (start now : MapList) → Progress → Type 0
RanSoFar program call start now progress = RanTo program call 0 progress.done start now (broke_with progress)

-- the last of these iterations sees or reduces an element that was written
pub record EndsDependent (program : Program) (call : LoopCall) (start : MapList) (progress : Progress) : Type 0 where
  pub reaches : ReachesWritten program call start
  pub last : progress.done ≡ reaches.index + 1

-- the maps from when a log was empty, where they are these now
abbrev pub maps_before : UndoLog → (now : MapList) → MapList
maps_before log now = record { sizes = now.sizes; words = words_before log now.words }

-- the maps are the start maps, and to put back what the log has makes them those after so many iterations in order
pub record IsAhead (program : Program) (call : LoopCall) (start : MapList) (log : UndoLog) (progress : Progress)
    : Type 0 where
  pub count : log_elements log ≡ length start.words
  pub within : progress.done ≤ call.n
  pub ran : RanSoFar program call start (maps_before log start) progress

-- how a watched loop came out: it ended, and passes; or it was stopped after an iteration that saw or reduced an
-- element that was written: the maps are as before, and the log has those that it had come to
abbrev pub CameOut : Program → LoopCall → (old new : MapList) → UndoLog → WatchedLoop → Type 0
CameOut program call old new log (Passed answer) = RanAndPasses program call old new answer
CameOut program call old new log (Dependent progress) = (new ≡ old) × EndsDependent program call old progress
    × IsAhead program call old log progress
