-- How watched iterations came out.
use Rattle.std.specs.Prelude.{ℕ}
use Rattle.array_maps.specs.MapList.{MapList}
use Rattle.bpf_insn_types.specs.Program.{Program}
use Rattle.bpf_step_model.specs.State.{LoopCall}
use Rattle.loop_core_undo.specs.declared.undo_log.UndoLog.{UndoLog}
use Rattle.loop_core_sequential.specs.declared.{progress.Progress.{Progress}, watched_loop.WatchedLoop.{WatchedLoop}}
use Rattle.loop_core_sequential.specs.declared.watching.Watch.{Watch, TheVariants.{Completed, Broke, Dependent}}
use Rattle.loop_core_sequential.specs.{Watched.{RanAndPasses}, Noting.{CanRestore, GoesWatched}}
use Rattle.loop_core_sequential.specs.Dependences.{RanSoFar, EndsDependent}
use Rattle.loop_core_sequential.specs.declared.watched_loop.WatchedLoop.TheVariants as loops

-- so many iterations ran in order from these start maps, which can be restored, and the last of them saw or reduced an
-- element that was written
pub record HasMet (program : Program) (call : LoopCall) (start now : MapList) (log : UndoLog) (progress : Progress)
    : Type 0 where
  pub restores : CanRestore start now log
  pub ends : EndsDependent program call start progress
  pub ran : RanSoFar program call start now progress

-- how iterations up to an index came out, from these start maps: they went on; or one broke off, and the loop passes;
-- or one saw or reduced an element that was written
abbrev pub WatchedTo : Program → LoopCall → (index : ℕ) → (start now : MapList) → UndoLog → Watch → Type 0
WatchedTo program call index start now log Completed = GoesWatched program call index start now log
WatchedTo program call index start now log (Broke answer) = RanAndPasses program call start now answer
WatchedTo program call index start now log (Dependent progress) = HasMet program call start now log progress

-- the loop has ended, and passes; or an iteration saw or reduced an element that was written
abbrev pub WatchedToEnd : Program → LoopCall → (start now : MapList) → UndoLog → WatchedLoop → Type 0
WatchedToEnd program call start now log (loops.Passed answer) = RanAndPasses program call start now answer
WatchedToEnd program call start now log (loops.Dependent progress) = HasMet program call start now log progress

-- how the loop came out, by how all of its n iterations did
abbrev pub loop_by : Watch → (n : ℕ) → WatchedLoop
loop_by Completed n = loops.Passed n
loop_by (Broke answer) n = loops.Passed answer
loop_by (Dependent progress) n = loops.Dependent progress
