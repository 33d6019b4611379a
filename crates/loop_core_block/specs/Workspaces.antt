-- What a block is run in.
use Rattle.std.specs.Prelude.{◌≡◌, ℕ}
use Rattle.loop_core_model.specs.declared.loop_test.Test.{Test}
use Rattle.shadow_marks.specs.Standing.{test_of}
use Rattle.loop_core_block.specs.declared.workspace.BlockWorkspace.{BlockWorkspace}

-- it is for blocks over n elements, judged by a test
pub record IsWorkspaceFor (elements : ℕ) (test : Test) (workspace : BlockWorkspace) : Type 0 where
  pub count : workspace.planes.elements ≡ elements
  pub test_is : test_of workspace.planes.tested ≡ test
