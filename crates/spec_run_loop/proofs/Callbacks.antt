-- A callback whose operations add up.
use Rattle.std.proofs.Common.{◌≡◌, ℕ, ◌<◌, ◌≤◌, List, [], ◌∷◌, map, Some, refl, sym, ap, ◌∙◌, subst, arith}
use Rattle.std.specs.Prelude.{replicate}
use Rattle.array_maps.specs.{declared.access.Op.{Op}, Accesses.{Access}}
use Rattle.bpf_insn_types.specs.Program.{Program}
use Rattle.bpf_step_model.specs.{State.{LoopCall}, Run.{BoundedResult, Ended, Stuck, Unfinished, followed}}
use Rattle.bpf_step_model.specs.Iteration.{Iterated}
use Rattle.bpf_verify_sound.specs.Soundness.{IsSoundProgram, OverApproximatesCall}
use Rattle.bpf_step_ir.specs.{declared.ir_op.IrOp.{IrOp}, Plain.{Plain}, Translation.{AreOps}}
use Rattle.bpf_step_ir.specs.PlainRun.{PlainStopReason, PlainExit, PlainLoop, PlainRefused, PlainRunSegment, plain_run}
use Rattle.bpf_step.{specs.Laws.{EachIterationSimulates, plain_exited_by, plain_exited}, proofs.Callbacks.{begins}}
use Rattle.spec_run_loop.specs.{SumOps.{AddUp}, SumLaw.{AllReduce, EndsReducing, SumsReduceAlone}}
use Rattle.spec_run_loop.specs.SumLoops.{OnlyReduces, IsSumLoop}
use Rattle.loop_core_sequential.proofs.Together.{frame_long}

-- the accesses of an iteration that ended
made_in : BoundedResult Iterated → List Access
made_in (Ended it) = it.accesses
made_in Stuck = []
made_in Unfinished = []

-- those of an exit are those of its run
exits : (op : Op) (s : PlainRunSegment) (turn : PlainStopReason) (it : Iterated) → AllReduce op s.accesses
    → plain_exited_by turn s ≡ Ended it → AllReduce op it.accesses
unfolding made_in
exits op s (PlainExit ret) it all h = subst (AllReduce op) (ap made_in h) all
exits op s (PlainLoop slot callback n ctx next) it all h = absurd (cc)
exits op s (PlainRefused slot call next) it all h = absurd (cc)

exited_reduces : (op : Op) (e : BoundedResult PlainRunSegment) (it : Iterated) → EndsReducing op e
    → followed plain_exited e ≡ Ended it → AllReduce op it.accesses
exited_reduces op (Ended s) it all h = exits op s s.turn it all h
exited_reduces op Stuck it all h = absurd (cc)
exited_reduces op Unfinished it all h = absurd (cc)

-- its first machine, over any frame of main's: the index in R1, and 0 in all other registers
abbrev first_machine : LoopCall → (index : ℕ) → List ℕ → Plain
first_machine call index bytes = record {
  slot = call.callback;
  registers = 0 ∷ (index ∷ replicate 9 0);
  frame = bytes;
  caller = bytes;
}

module _ (law : SumsReduceAlone) (its : EachIterationSimulates) (program : Program) (sound : IsSoundProgram program)
    (ops : List IrOp) (are : AreOps program ops) (call : LoopCall) (known : OverApproximatesCall program call)
    (bytes : List ℕ) (same : map Some bytes ≡ call.frame) (op : Op) (past : ℕ) where
  from_callback : call.callback < past → AddUp op ops call.callback past → OnlyReduces (record {
    program = program;
    call = call;
    op = op;
  })
  from_callback below add_up index inside words fit it told =
      let p : Plain = first_machine call index bytes in
      let low : call.callback ≤ call.callback = omega arith in
      exited_reduces op (plain_run ops 4096 p words) it
      (law op ops call.callback past add_up 4096 p words low below)
      (sym (its program sound ops are 4096 call known index inside p
      (begins call index call.callback (0 ∷ (index ∷ replicate 9 0)) bytes bytes refl
      (record { count = refl; given = refl; ctx = refl }) (frame_long program call bytes known same) same) words fit)
      ∙ told)

  -- operations that add up from the callback's start on make a loop that adds up
  pub is_sum_loop : (start : ℕ) → start ≡ call.callback → start < past → AddUp op ops start past → IsSumLoop (record {
    program = program;
    call = call;
    op = op;
  })
  is_sum_loop start at below add_up = record {
    known = known;
    reduces = from_callback (subst (λ (slot : ℕ). slot < past) at below)
        (subst (λ (slot : ℕ). AddUp op ops slot past) at add_up);
  }
