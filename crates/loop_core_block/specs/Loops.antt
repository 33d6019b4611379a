-- A loop that is run speculatively.
use Rattle.std.specs.Prelude.{◌≡◌, ℕ, List, None}
use Rattle.array_maps.specs.MapList.{MapList}
use Rattle.bpf_insn_types.specs.Program.{Program}
use Rattle.bpf_step_model.specs.State.{LoopCall}
use Rattle.bpf_verify_sound.specs.Soundness.{OverApproximatesCall}
use Rattle.loop_core_model.specs.{declared.loop_test.Test.{Test}, Split.{split_fault}}

-- a program, a loop call, the maps that it starts on, a split's bounds, and a test
pub record LoopOf : Type 0 where
  pub program : Program
  pub call : LoopCall
  pub start : MapList
  pub bounds : List ℕ
  pub test : Test

-- main of the program made the call, the maps are of its sizes, and the bounds split the call's iterations
pub record IsSpeculative (l : LoopOf) : Type 0 where
  pub known : OverApproximatesCall l.program l.call
  pub sizes : l.start.sizes ≡ l.program.sizes
  pub split : split_fault l.bounds l.call.n ≡ None
