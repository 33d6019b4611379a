-- A loop at its call.
use Rattle.std.specs.Prelude.{◌≡◌, None}
use Rattle.bpf_verify_sound.specs.Soundness.{OverApproximatesCall}
use Rattle.loop_core_model.specs.{declared.loop_test.Test.{Test}, Split.{split_fault}}
use Rattle.loop_core_block.specs.{declared.block.Block.{Block}, Ran.{RecordsRun}, Shown.{shown}}
use Rattle.tests_loops.specs.declared.stage.Stage.{Stage}

-- main of the program made the call, the maps are of its sizes, and the bounds split the call's iterations
pub record IsStage (stage : Stage) : Type 0 where
  pub known : OverApproximatesCall stage.program stage.call
  pub sizes : stage.maps.sizes ≡ stage.program.sizes
  pub split : split_fault stage.split stage.call.n ≡ None

-- a block of it was run, and marked for a test
abbrev pub IsRunOn : Test → Stage → Block → Type 0
IsRunOn test stage block = RecordsRun test stage.program stage.call stage.maps.words (shown block)
