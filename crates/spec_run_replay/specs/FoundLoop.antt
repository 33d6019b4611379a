-- What running main up to its first valid loop call gives.
use Rattle.std.specs.Prelude.{◌≡◌, ℕ, Option, Some, None}
use Rattle.array_maps.specs.MapList.{MapList}
use Rattle.bpf_insn_types.specs.Program.{Program}
use Rattle.bpf_step_model.specs.{Run.{Ended}, ProgramInOrder.{program_in_order}}
use Rattle.bpf_verify_sound.specs.Soundness.{AreMapWords, OverApproximatesCall}
use Rattle.bpf_step.specs.Turns.{IsFilled}
use Rattle.spec_run_main.specs.Reports.{EndsWithItsLoops}
use Rattle.spec_run_replay.specs.{declared.first_loop.NumberedCall.{NumberedCall}, FirstLoop.{ValidLoop, first_loop}}

-- a call that main handed out over these maps is this one
pub record IsAtCall (program : Program) (maps : MapList) (valid : ValidLoop) (found : NumberedCall) : Type 0 where
  pub number : found.number ≡ valid.number
  pub filled : IsFilled program valid.call found.call
  pub known : OverApproximatesCall program found.call
  pub words : maps.words ≡ valid.words
  pub fit : AreMapWords program maps.words
  pub sizes : maps.sizes ≡ program.sizes

-- main handed out its first valid loop call, or has none
abbrev pub IsFirstLoop : Program → MapList → Option ValidLoop → Option NumberedCall → Type 0
IsFirstLoop program maps None None = Unit {0}
IsFirstLoop program maps (Some valid) (Some found) = IsAtCall program maps valid found
IsFirstLoop program maps _ _ = ⊥

-- main ran on the old maps up to there, which are the new ones then; the program ends, and so does each iteration of
-- its loop calls
pub record CameToLoop (program : Program) (argument : ℕ) (old new : MapList) (found : Option NumberedCall) : Type 0
  where
    pub valid : Option ValidLoop
    pub first : first_loop program 4096 argument old.words ≡ Ended valid
    pub is : IsFirstLoop program new valid found
    pub ends : EndsWithItsLoops program (program_in_order program 4096 argument old.words)
