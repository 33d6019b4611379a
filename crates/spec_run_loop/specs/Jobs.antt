-- A loop call, and the plan by which it is run.
use Rattle.bpf_insn_types.specs.Program.{Program}
use Rattle.bpf_step_model.specs.State.{LoopCall}
use Rattle.bpf_verify_sound.specs.Soundness.{OverApproximatesCall}
use Rattle.loop_core_split.specs.{declared.plan.Plan.{Plan}, Plans.{IsPlan}}

-- a program, a loop call and a plan
pub record JobOf : Type 0 where
  pub program : Program
  pub call : LoopCall
  pub plan : Plan

-- main of the program made the call, and the plan is within its limits
pub record IsJob (j : JobOf) : Type 0 where
  pub known : OverApproximatesCall j.program j.call
  pub within : IsPlan j.plan
