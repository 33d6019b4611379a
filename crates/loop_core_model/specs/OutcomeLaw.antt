-- What the outcome of a loop is by a test.
use Rattle.std.specs.Prelude.{◌≡◌, ℕ, ◌+◌, List, [], ◌∷◌, length}
use Rattle.array_maps.specs.Accesses.{Access}
use Rattle.bpf_insn_types.specs.Program.{Program}
use Rattle.bpf_step_model.specs.{State.{LoopCall}, Run.{Ended}, LoopInOrder.{Looped, loop_in_order}}
use Rattle.loop_core_model.specs.declared.{loop_test.Test.{Test}, verdict.Verdict.TheVariants.{Parallel, Conflict}}
use Rattle.loop_core_model.specs.{Conflict.{conflicting}, LeastBreak.{counted, counted_runs}, Outcome.{outcome}}
use Rattle.loop_core_model.specs.Committed.{committed_words}

-- where all counted iterations end on the start words: if no element conflicts, the loop answers how many iterations
-- count, and leaves what is committed of their accesses; else it answers and leaves what it does in order
pub record OutcomeByTest : Type 0 where
  pub passes : (test : Test) (program : Program) (bound : ℕ) (call : LoopCall) (words : List ℕ)
      (runs : List (List Access)) →
      counted_runs program bound call words ≡ Ended runs → conflicting test runs (length words) ≡ [] →
      outcome test program bound call words
      ≡ Ended (record {
        verdict = Parallel;
        answer = counted program bound call words;
        words = committed_words runs words;
      })
  pub conflicts : (test : Test) (program : Program) (bound : ℕ) (call : LoopCall) (words : List ℕ)
      (runs : List (List Access)) (least : ℕ) (others : List ℕ)
      (looped : Looped) → counted_runs program bound call words ≡ Ended runs → conflicting test runs (length words)
      ≡ least ∷ others →
      loop_in_order program bound call words ≡ Ended looped →
      outcome test program bound call words
      ≡ Ended (record { verdict = Conflict (length others + 1) least; answer = looped.answer; words = looped.words })
