-- Loop calls that are explained.
use Rattle.std.{proofs.Common.{◌≡◌, ℕ, List, [], ◌∷◌, ◌++◌, length, refl, sym, ap, subst, ◌∙◌}, specs.Prelude.{Bool}}
use Rattle.std.specs.List.{AllByRecursion}
use Rattle.array_maps.specs.MapList.{MapList}
use Rattle.bpf_insn_types.specs.Program.{Program}
use Rattle.bpf_step_model.specs.{State.{LoopCall}, ProgramInOrder.{valid_call}, Run.{Ended, mapped}}
use Rattle.bpf_verify_sound.specs.Soundness.{IsSoundProgram}
use Rattle.loop_core_model.specs.declared.{loop_test.Test.{Test}, verdict.{LoopReport.{LoopReport}, Verdict.{Verdict}}}
use Rattle.loop_core_model.specs.{Conflict.{conflicting}, Report.{line, loop_report, verdict, judged}}
use Rattle.loop_core_sequential.specs.{FilledCalls.{FilledCallsAreOneLoop}, Loops.{RanLoopInOrder}}
use Rattle.spec_run_explain.specs.{declared.conflicts.Conflicts.{Conflicts}, Conflicting.{AreConflicts}}
use Rattle.spec_run_explain.specs.Causes.{IsExplained, report_lines}
use Rattle.spec_run_main.specs.Calls.{RanCall}
use Rattle.loop_core_witness.specs.declared.explained.LoopExplained.{LoopExplained}

-- one more behind
pub all_last : {A : Type 0} (P : A → Type 0) (xs ys : List A) (x : A) → ys ≡ xs ++ x ∷ [] → AllByRecursion P xs → P x
    → AllByRecursion P ys
all_last P xs ys x added all last = subst (AllByRecursion P) (sym added) (go xs all)
  where
    go : (zs : List _) → AllByRecursion P zs → AllByRecursion P (zs ++ x ∷ [])
    go [] none = (last, tt)
    go (z ∷ zs) each = (each.0, go zs each.1)

lines_behind : (xs : List LoopExplained) (x : LoopExplained) → report_lines (xs ++ x ∷ []) ≡ report_lines xs ++ x.line
    ∷ []
lines_behind [] x = refl
lines_behind (first ∷ xs) x = ap (λ (rest : List LoopReport). first.line ∷ rest) (lines_behind xs x)

pub lines_last : (xs ys : List LoopExplained) (x : LoopExplained) (before after : List LoopReport) → ys ≡ xs ++ x ∷ []
    → after ≡ before ++ x.line ∷ [] → report_lines xs ≡ before →
    report_lines ys ≡ after
lines_last xs ys x before after added pushed same =
    ap report_lines added ∙ lines_behind xs x ∙ ap (λ (ls : List LoopReport). ls ++ x.line ∷ []) same ∙ sym pushed

-- the verdict that is found
pub verdict_found : (test : Test) (program : Program) (call : LoopCall) (words : List ℕ) (most : ℕ) (found : Conflicts)
    → AreConflicts test program call words most found →
    verdict test program 4096 call words ≡ Ended found.verdict
verdict_found test program call words most found are =
    ap (mapped (λ runs. judged (conflicting test runs (length words)))) are.counted ∙ ap Ended (sym are.verdict)

-- a call that ran in order, of which this is the verdict
pub ran_call : (test : Test) → {program : Program} {call : LoopCall} {start left : MapList} {answer : ℕ}
    {found : Verdict} →
    FilledCallsAreOneLoop → IsSoundProgram program → RanLoopInOrder program call start left answer
    → verdict test program 4096 call start.words ≡ Ended found →
    RanCall (loop_report test program 4096) program call start left answer found
ran_call test {program} {call} {start} {left} {answer} {found} one_loop sound ran judges = record {
  ran = ran;
  line = λ made filled known fit.
      ap (mapped (line (valid_call made answer start.words)))
      (sym ((one_loop program sound made call filled known start.words fit).judges test) ∙ judges);
}

-- on maps that are the same
pub explained_on : {test : Test} {program : Program} {call : LoopCall} {most answer : ℕ} {wants : Bool}
    {explained : LoopExplained} (start now : MapList) → start ≡ now →
    IsExplained test program call start.words most wants answer explained
    → IsExplained test program call now.words most wants answer explained
explained_on {test} {program} {call} {most} {answer} {wants} {explained} start now same is =
    subst (λ (maps : MapList). IsExplained test program call maps.words most wants answer explained) same is
