-- What a run gives, by the report on the program in the definitions.
use Rattle.std.specs.{Prelude.{◌≡◌, ℕ, ◌<◌, List, Option, Some, None}, List.{AllByRecursion}}
use Rattle.array_maps.specs.MapList.{MapList}
use Rattle.bpf_insn_types.specs.Program.{Program}
use Rattle.bpf_step_model.specs.{State.{LoopCall}, Run.{BoundedResult, Ended, Stuck, Unfinished}, Iteration.{iteration}}
use Rattle.bpf_step_model.specs.ProgramInOrder.{Finished, program_in_order}
use Rattle.bpf_verify_sound.specs.Soundness.{AreMapWords, IterationEnds, callback_count}
use Rattle.loop_core_model.specs.declared.{loop_test.Test.{Test}, verdict.LoopReport.{LoopReport}}
use Rattle.loop_core_model.specs.Report.{Reported, report_in_order, report as report_by}
use Rattle.spec_run_main.specs.declared.report.Report.{Report}

-- each iteration of a loop call, if it is valid, on any words of the maps and so a speculative one too, isn't stuck: it
-- ends within its callback's count with 0 or 1
abbrev pub IterationsEnd : Program → Option LoopCall → Type 0
IterationsEnd program None = Unit {0}
IterationsEnd program (Some call) = (index : ℕ) → index < call.n → (words : List ℕ) → AreMapWords program words →
    IterationEnds program (callback_count program call) (iteration program 4096 call index words)

-- a program in order ends, and so does each iteration of each loop call that it makes
abbrev pub EndsWithItsLoops : Program → BoundedResult Finished → Type 0
EndsWithItsLoops program Stuck = ⊥
EndsWithItsLoops program Unfinished = ⊥
EndsWithItsLoops program (Ended f) = AllByRecursion (λ made. IterationsEnd program made.call) f.loops

-- what a run gives is what the program gives whose loops run in order, from the old maps: this return value, these
-- lines of its loop calls and the new maps
pub record IsReportOf (reported : BoundedResult Reported) (program : Program) (argument : ℕ) (old new : MapList)
    (ret : ℕ) (loops : List LoopReport) : Type 0 where
  -- the old maps are of the program's sizes, and the new ones too
  pub sizes : old.sizes ≡ program.sizes
  pub kept : new.sizes ≡ old.sizes
  -- the return value, each loop call's slot, answer and verdict, and the new maps' words are those reported
  pub gives : reported ≡ Ended (record { ret = ret; loops = loops; words = new.words })
  -- the program ends, and so does each iteration of each valid loop call that it makes, on any words of the maps
  pub ends : EndsWithItsLoops program (program_in_order program 4096 argument old.words)

-- what a run gives is what the program gives whose loops run in order, from the old maps, where main takes at most
-- 4,096 instructions up to each turn, and an iteration at most as many; each valid call's verdict is that of the test
abbrev pub IsReportByTest : Test → Program → (argument : ℕ) → (old new : MapList) → Report → Type 0
IsReportByTest test program argument old new report =
    IsReportOf (report_by test program 4096 argument old.words) program argument old new report.ret report.loops.items

-- what a run in order gives is what the program in order gives, from the old maps, with the same limits
abbrev pub IsReportInOrder : Program → (argument : ℕ) → (old new : MapList) → (ret : ℕ) → List LoopReport → Type 0
IsReportInOrder program argument old new ret loops =
    IsReportOf (report_in_order program 4096 argument old.words) program argument old new ret loops
