-- A loop at its call.
use Rattle.std.specs.Prelude.{◌≡◌, ℕ, List, None}
use Rattle.array_maps.specs.MapList.{MapList}
use Rattle.bpf_insn_types.specs.Program.{Program}
use Rattle.bpf_step_model.specs.State.{LoopCall}
use Rattle.bpf_verify_sound.specs.Soundness.{OverApproximatesCall}
use Rattle.loop_core_model.specs.Split.{split_fault}

-- a program, a loop call, the maps that it starts on, and a split's bounds
pub record StageOf : Type 0 where
  pub program : Program
  pub call : LoopCall
  pub start : MapList
  pub bounds : List ℕ

-- main of the program made the call, the maps are of its sizes, and the bounds split the call's iterations
pub record IsReplayStage (s : StageOf) : Type 0 where
  pub known : OverApproximatesCall s.program s.call
  pub sizes : s.start.sizes ≡ s.program.sizes
  pub split : split_fault s.bounds s.call.n ≡ None
