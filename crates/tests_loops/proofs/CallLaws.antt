-- The loop call that main comes to.
use Rattle.bpf_step_model.specs.{Run.{StopReason, Exit, Loop, Refused}, State.{LoopCall}}
use Rattle.bpf_verify_sound.specs.Soundness.{OverApproximatesCall}
use Rattle.bpf_step.specs.{Mains.{MainOf}, Turns.{StopsAs}}
use Rattle.bpf_step.specs.declared.main_function.Turned.TheVariants as turned

-- a call that is made is as is known
pub known_call : (main : MainOf) (turn : StopReason) (call : LoopCall) → StopsAs main turn (turned.Loop call)
    → OverApproximatesCall main.program call
known_call main (Loop made next) call turns = turns.1
known_call main (Exit ret) call turns = absurd turns
known_call main (Refused slot asked next) call turns = absurd turns
