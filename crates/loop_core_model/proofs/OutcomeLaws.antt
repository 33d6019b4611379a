-- The outcome of a loop by a test, from the law of speculation.
use Rattle.std.proofs.Common.{◌≡◌, ℕ, List, length, refl}
use Rattle.array_maps.specs.Accesses.{Access}
use Rattle.bpf_insn_types.specs.Program.{Program}
use Rattle.bpf_step_model.specs.{State.{LoopCall}, Run.{Ended}}
use Rattle.bpf_step_model.specs.LoopInOrder.{Looped, loop_in_order}
use Rattle.loop_core_model.specs.{declared.{loop_test.Test.{Test}}, Conflict.{conflicting}}
use Rattle.loop_core_model.{specs.{LeastBreak.{counted_runs}, Report.{judged}}, proofs.LoopAgain.{loop_law}}
use Rattle.loop_core_model.specs.{Outcome.{outcome}, OutcomeLaw.{OutcomeByTest}}

outcome_is : (test : Test) (program : Program) (bound : ℕ) (call : LoopCall) (words : List ℕ)
    (runs : List (List Access)) (elements : List ℕ) (looped : Looped) →
    counted_runs program bound call words ≡ Ended runs → conflicting test runs (length words) ≡ elements
    → loop_in_order program bound call words ≡ Ended looped →
    outcome test program bound call words ≡ Ended (record {
      verdict = judged elements;
      answer = looped.answer;
      words = looped.words;
    })
outcome_is test program bound call words runs elements looped r c l = rw (r, c, l) refl

pub outcome_by_test : OutcomeByTest
outcome_by_test = record {
  passes = λ test program bound call words runs r c. outcome_is test program bound call words runs _ _ r c
      (loop_law test program bound call words runs r c);
  conflicts = λ test program bound call words runs least others looped r c l. outcome_is test program bound call words
      runs _ looped r c l;
}
