-- What a function gives that runs loop calls.
use Rattle.std.specs.Prelude.{◌≡◌, Result, IfOk}
use denote.Ref.{Bor, MutBor}
use denote.Param.Members.{Shared}
use Rattle.array_maps.specs.MapList.{MapList}
use Rattle.bpf_insn_types.specs.Program.{Program}
use Rattle.bpf_step_model.specs.{State.{LoopCall}, Run.{BoundedResult}, ProgramInOrder.{LoopMade}}
use Rattle.bpf_verify_sound.specs.Soundness.{OverApproximatesCall}
use Rattle.loop_core_model.specs.declared.verdict.LoopReport.{LoopReport}
use Rattle.spec_run_main.specs.Calls.{RanCall}
use Rattle.spec_run_loop.specs.declared.decision.LoopAnswer.{LoopAnswer}
use Rattle.spec_run_workers.specs.declared.workspace.Workspace.{Workspace}

module _ {F E : Type 0}
    (calls : Shared F (Bor LoopCall × (MutBor MapList × (MutBor Workspace × Unit {0})))
    (Result LoopAnswer E × (MutBor MapList × (MutBor Workspace × Unit {0}))))
    (f : F) where
  -- f may run a loop call on a `&mut` to these maps, in any workspace
  abbrev pub MayRun : LoopCall → MapList → Type 0
  MayRun call start = (call_ref : Bor LoopCall) (maps : MutBor MapList) (workspace : MutBor Workspace)
      → call_ref.now ≡ call → maps.now ≡ start → calls.pre f (call_ref, (maps, (workspace, tt)))

  -- it may answer this, and leave these maps there
  pub record MayAnswer (call : LoopCall) (start : MapList) (answered : Result LoopAnswer E) (left : MapList) : Type 0
    where
      pub call_ref : Bor LoopCall
      pub call_is : call_ref.now ≡ call
      pub maps : MutBor MapList
      pub start_is : maps.now ≡ start
      pub workspace : MutBor Workspace
      pub after_call : MutBor MapList
      pub workspace_after : MutBor Workspace
      pub ran : calls.post f (call_ref, (maps, (workspace, tt))) (answered, (after_call, (workspace_after, tt)))
      pub left_is : after_call.now ≡ left

  -- f runs the loop calls that main of a program makes, on maps of its sizes, as their lines say
  pub record RunsCalls (line_of : LoopMade → BoundedResult LoopReport) (program : Program) : Type 0 where
    pub may : (call : LoopCall) (start : MapList) → OverApproximatesCall program call → start.sizes ≡ program.sizes
        → MayRun call start
    pub ran : (call : LoopCall) (start : MapList) (answered : Result LoopAnswer E) (left : MapList)
        → OverApproximatesCall program call → start.sizes ≡ program.sizes → MayAnswer call start answered left
        → IfOk answered (λ a. RanCall line_of program call start left a.answer a.verdict)
