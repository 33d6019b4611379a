-- Loop calls that can be run.
use Rattle.std.specs.Prelude.{◌≡◌}
use Rattle.bpf_verify_sound.specs.Soundness.{OverApproximatesCall}
use Rattle.loop_core_sequential.specs.declared.loop_run.LoopRun.{LoopRun}

-- each iteration of the call begins within the program's abstract states, and the callback is of both
pub record IsLoopRun (run : LoopRun) : Type 0 where
  pub known : OverApproximatesCall run.program.now run.call.now
  pub callback : run.callback ≡ record { program = run.program.now; call = run.call.now }
