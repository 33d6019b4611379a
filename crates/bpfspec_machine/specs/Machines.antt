-- A program with its maps, which runs many times.
use Rattle.std.specs.Prelude.{◌≡◌, ◌≤◌, ℕ, if◌then◌else◌, nat_le, List, [], ◌∷◌, length, Option, Some, None}
use Rattle.array_maps.specs.MapList.{MapList, zero_maps}
use Rattle.bpf_insn_types.specs.Program.{Program, callback_starts}
use Rattle.bpf_verify_model.specs.Count.{count_of}
use Rattle.bpf_verify_sound.specs.Soundness.{most_from}
use Rattle.loop_core_model.specs.declared.verdict.LoopReport.{LoopReport}
use Rattle.spec_run_main.specs.Reports.{IsReportInOrder}

-- a program, its maps, and the lines of the loop calls of its last run
pub record MachineState : Type 0 where
  pub program : Program
  pub maps : MapList
  pub loops : List LoopReport

-- as it is loaded: all words of its maps are 0, and it hasn't run
abbrev pub new_machine : Program → MachineState
new_machine program = record { program = program; maps = zero_maps program.sizes; loops = [] }

-- the maps are of the program's sizes, and there is a line for each loop call that it can make
pub record IsMachine (program : Program) (maps : MapList) (lines : List LoopReport) : Type 0 where
  pub sizes : maps.sizes ≡ program.sizes
  pub room : most_from program 0 ≤ length lines

-- a run of a machine, its argument in R1, gave this answer and this machine: the program in order, from the words of
-- its maps, which it leaves to the next run
pub record MachineRan (argument : ℕ) (old new : MachineState) (answer : ℕ) : Type 0 where
  pub program : new.program ≡ old.program
  pub ran : IsReportInOrder old.program argument old.maps new.maps answer new.loops

-- runs in turn, each from what the one before left, one for each argument, gave these answers
abbrev pub RanEach : (arguments : List ℕ) → (old new : MachineState) → (answers : List ℕ) → Type 0
RanEach [] old new [] = new ≡ old
RanEach (argument ∷ arguments) old new (answer ∷ answers) =
    (between : MachineState) × MachineRan argument old between answer × RanEach arguments between new answers
RanEach _ old new _ = ⊥

-- the worst-case instruction count of a function, main being 0 and the callbacks following by where they start; none
-- where there is no such function
abbrev pub count_at : Program → (function : ℕ) → Option ℕ
count_at program function =
    if nat_le function (length (callback_starts program.insns)) then Some (count_of program.insns function) else None
