-- What becomes of a loop by its gathered blocks.
use Rattle.std.specs.Prelude.{◌≡◌, ℕ, List}
use Rattle.bpf_insn_types.specs.Program.{Program}
use Rattle.bpf_step_model.specs.{State.{LoopCall}, Run.{Ended}}
use Rattle.loop_core_model.specs.declared.{loop_test.Test.{Test}, verdict.Verdict.TheVariants.{Parallel}}
use Rattle.loop_core_model.specs.{Report.{verdict}, Outcome.{outcome}}
use Rattle.loop_core_gather.specs.{declared.storing.LeftPage.{LeftPage}, Pages.{AreLeft}}
use Rattle.loop_core_gather.specs.declared.decision.Decision.{Decision, TheVariants.{Commit, Discard}}

-- a loop call passes from these words, answers this, and leaves these pages, and the others as they were
pub record Passes (test : Test) (program : Program) (call : LoopCall) (words : List ℕ) (answer : ℕ)
    (pages : List LeftPage) : Type 0 where
  pub left : List ℕ
  pub outcome_is : outcome test program 4096 call words ≡ Ended (record {
    verdict = Parallel;
    answer = answer;
    words = left;
  })
  pub pages_are : AreLeft words left pages

-- it is committed where it passes; else its verdict is reported
abbrev pub IsDecision : Test → Program → LoopCall → List ℕ → Decision → Type 0
IsDecision test program call words (Commit answer pages) = Passes test program call words answer pages.items
IsDecision test program call words (Discard reported) = verdict test program 4096 call words ≡ Ended reported
