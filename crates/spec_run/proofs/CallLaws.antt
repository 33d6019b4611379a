-- What loop calls that were run tell of them.
use Rattle.std.{proofs.Common.{◌≡◌, ℕ, Ok, Err, ap, sym, subst, ◌∙◌}, specs.Prelude.{Result, IfOk}}
use denote.Ref.{Bor, MutBor}
use denote.Param.Members.{Shared}
use Rattle.array_maps.specs.MapList.{MapList}
use Rattle.bpf_insn_types.specs.Program.{Program}
use Rattle.bpf_step_model.specs.{State.{LoopCall}, Run.{BoundedResult, Ended, Stuck, Unfinished, mapped, followed}}
use Rattle.bpf_step_model.specs.{LoopInOrder.{Looped, loop_in_order}, ProgramInOrder.{LoopMade, valid_call}}
use Rattle.bpf_step_model.proofs.Endings.{ended_same}
use Rattle.bpf_verify_sound.specs.Soundness.{IsSoundProgram, OverApproximatesCall}
use Rattle.loop_core_model.specs.declared.{loop_test.Test.{Test}, verdict.{LoopReport.{LoopReport}, Verdict.{Verdict}}}
use Rattle.loop_core_model.specs.{Report.{line, loop_report, verdict}, Outcome.{Outcome, judged_as}}
use Rattle.loop_core_sequential.specs.FilledCalls.{FilledCallsAreOneLoop}
use Rattle.loop_core_gather.specs.Gathered.{IsOutcome}
use Rattle.spec_run_loop.specs.declared.decision.LoopAnswer.{LoopAnswer}
use Rattle.spec_run_workers.specs.declared.workspace.Workspace.{Workspace}
use Rattle.spec_run_main.specs.Calls.{RanCall}
use Rattle.spec_run.specs.Calls.{MayAnswer, RunsCalls}

-- an outcome that is there is a verdict and a loop in order that are there
record Parts (told : BoundedResult Verdict) (looped : BoundedResult Looped) (o : Outcome) : Type 0 where
  judged : told ≡ Ended o.verdict
  ordered : looped ≡ Ended (record { answer = o.answer; words = o.words })

parts : (told : BoundedResult Verdict) (looped : BoundedResult Looped) (o : Outcome) → followed (judged_as told) looped
    ≡ Ended o → Parts told looped o
parts (Ended v) (Ended l) o h =
    let same = ended_same (record { verdict = v; answer = l.answer; words = l.words }) o h in
    record {
      judged = ap (λ (p : Outcome). Ended p.verdict) same;
      ordered = ap (λ (p : Outcome). Ended (record { answer = p.answer; words = p.words })) same;
    }
parts Stuck (Ended l) o h = absurd (cc)
parts Unfinished (Ended l) o h = absurd (cc)
parts told Stuck o h = absurd (cc)
parts told Unfinished o h = absurd (cc)

-- a loop whose outcome by a test is this
pub call_by_test : {test : Test} {program : Program} {call : LoopCall} {start left : MapList} {answer : ℕ}
    {told_verdict : Verdict}
    → FilledCallsAreOneLoop → IsSoundProgram program → IsOutcome test program call start told_verdict answer left
    → RanCall (loop_report test program 4096) program call start left answer told_verdict
call_by_test {test} {program} {call} {start} {left} {answer} {told_verdict} one_loop sound is =
    let both = parts (verdict test program 4096 call start.words) (loop_in_order program 4096 call start.words)
    (record { verdict = told_verdict; answer = answer; words = left.words }) is.outcome_is in
    record {
      ran = record { told = both.ordered; kept = is.sizes };
      line = λ made filled known fit.
          ap (mapped (line (valid_call made answer start.words)))
          (sym ((one_loop program sound made call filled known start.words fit).judges test) ∙ both.judged);
    }

-- the same where it gave an answer
pub each_by_test : (test : Test) (program : Program) (call : LoopCall) (start left : MapList) {E : Type 0}
    → FilledCallsAreOneLoop → IsSoundProgram program → (ran : Result LoopAnswer E)
    → IfOk ran (λ a. IsOutcome test program call start a.verdict a.answer left)
    → IfOk ran (λ a. RanCall (loop_report test program 4096) program call start left a.answer a.verdict)
each_by_test test program call start left one_loop sound (Ok a) is = call_by_test one_loop sound is
each_by_test test program call start left one_loop sound (Err e) is = tt

-- what a call says of what it borrowed, it says of the loop call and the maps
pub told_of : {F E : Type 0}
    {calls : Shared F (Bor LoopCall × (MutBor MapList × (MutBor Workspace × Unit {0})))
    (Result LoopAnswer E × (MutBor MapList × (MutBor Workspace × Unit {0})))}
    {f : F} {call : LoopCall} {start left : MapList} {answered : Result LoopAnswer E}
    (P : LoopCall → MapList → MapList → Type 0) → (it : MayAnswer calls f call start answered left)
    → P it.call_ref.now it.maps.now it.after_call.now → P call start left
told_of {F} {E} {calls} {f} {call} {start} {left} {answered} P it told =
    subst (λ (left : MapList). P call start left) it.left_is
    (subst (λ (start : MapList). P call start it.after_call.now) it.start_is
    (subst (λ (call : LoopCall). P call it.maps.now it.after_call.now) it.call_is told))

-- a call that gave an answer ran
pub ran_of : {F E : Type 0}
    {calls : Shared F (Bor LoopCall × (MutBor MapList × (MutBor Workspace × Unit {0})))
    (Result LoopAnswer E × (MutBor MapList × (MutBor Workspace × Unit {0})))}
    {f : F} {line_of : LoopMade → BoundedResult LoopReport} {program : Program} {call : LoopCall}
    {start left : MapList} {answered : Result LoopAnswer E} {a : LoopAnswer} → RunsCalls calls f line_of program
    → OverApproximatesCall program call → start.sizes ≡ program.sizes → MayAnswer calls f call start answered left
    → answered ≡ Ok a → RanCall line_of program call start left a.answer a.verdict
ran_of {F} {E} {calls} {f} {line_of} {program} {call} {start} {left} {answered} runs known sizes answers is =
    subst (λ (r : Result LoopAnswer E). IfOk r (λ a. RanCall line_of program call start left a.answer a.verdict)) is
    (runs.ran call start answered left known sizes answers)
