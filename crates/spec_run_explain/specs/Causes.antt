-- Which way loops go, and why they conflict.
use Rattle.std.specs.Prelude.{◌≡◌, ℕ, pos, Bool, true, false, ◌&&◌, List, [], ◌∷◌, Option, Some, None, map, length}
use Rattle.std.specs.{Prelude.{take, is_none}, List.{AllByRecursion}}
use Rattle.array_maps.specs.Accesses.{Access}
use Rattle.bpf_insn_types.specs.Program.{Program}
use Rattle.bpf_step_model.specs.{declared.refused_call.RefusedCall.{RefusedCall}, State.{LoopCall}}
use Rattle.bpf_step_model.specs.{Run.{BoundedResult, Ended}, ProgramInOrder.{LoopMade, refused_call, Finished}}
use Rattle.bpf_verify_sound.specs.Soundness.{OverApproximatesCall}
use Rattle.bpf_step.specs.Turns.{IsFilled}
use Rattle.loop_core_witness.specs.{declared.grid.Grid.{Grid}, Breaks.{IsBreak}, Reductions.{HasEnd}}
use Rattle.loop_core_witness.specs.{Witnesses.{Explains}, declared.explained.Cause.{Cause}}
use Rattle.loop_core_witness.specs.declared.explained.LoopExplained.{LoopExplained}
use Rattle.loop_core_model.specs.{declared.{loop_test.Test.{Test}, verdict.LoopReport.{LoopReport}}, Report.{verdict}}
use Rattle.loop_core_model.specs.{declared.verdict.Verdict.TheVariants.{Refused}, LeastBreak.{counted_runs}}
use Rattle.loop_core_model.specs.Conflict.{fails, at_element, conflicting}
use Rattle.loop_core_split.specs.declared.{strategy.Strategy.{Strategy}, plan.Policy.TheVariants.{Pays}}
use Rattle.spec_run_loop.specs.{Strategies.{IsStrategyUsed}, Jobs.{JobOf}}
use Rattle.spec_run_explain.specs.Showing.{is_conflict, Shows}

-- a loop call in a run that isn't given workers and blocks: at most 2 and 4 of them, each loop going the way that pays
abbrev pub job_by : Test → Program → LoopCall → JobOf
job_by test program call = record {
  program = program;
  call = call;
  plan = record { workers = 2; blocks = 4; test = test; policy = Pays };
}

-- the counted iterations of a loop call on these words fail a test at an element
pub record FailsAt (test : Test) (program : Program) (call : LoopCall) (words : List ℕ) (element : ℕ) : Type 0 where
  pub runs : List (List Access)
  pub counted : counted_runs program 4096 call words ≡ Ended runs
  pub failing : fails test (at_element element runs) ≡ true

-- the elements that causes are of
abbrev pub cause_elements : List Cause → List ℕ
cause_elements causes = map (λ (c : Cause). c.element) causes

-- the iterations of a cause are the least pair that fails the test at its element, and its end is the access by which
-- the element isn't reduction-only
pub record IsCause (test : Test) (program : Program) (call : LoopCall) (words : List ℕ) (cause : Cause) : Type 0 where
  pub pair : Explains test program call words cause.element (Some cause.witness)
  pub end : HasEnd program call words cause.element cause.end

-- so a loop call on these words is explained that answers this in order: its causes are those of the least elements
-- that conflict, at most `most`; which way it goes is reported; and a grid is shown, if it conflicts and one is wanted
pub record IsExplained (test : Test) (program : Program) (call : LoopCall) (words : List ℕ) (most : ℕ)
    (wants_grid : Bool) (answer : ℕ) (explained : LoopExplained) : Type 0 where
  pub slot : explained.line.slot ≡ call.slot
  pub answer_is : explained.line.answer ≡ pos answer
  pub verdict_is : verdict test program 4096 call words ≡ Ended explained.line.verdict
  pub iterations : explained.iterations ≡ call.n
  pub flags : explained.flags ≡ 0
  pub broke : IsBreak program call words explained.broke
  pub course : Strategy
  pub strategy : explained.strategy ≡ Some course
  pub goes : IsStrategyUsed (job_by test program call) words course
  pub runs : List (List Access)
  pub counted : counted_runs program 4096 call words ≡ Ended runs
  pub elements : cause_elements explained.causes.items ≡ take most (conflicting test runs (length words))
  pub causes : AllByRecursion (IsCause test program call words) explained.causes.items
  pub grid : Shows program call words explained.causes.items (wants_grid && is_conflict explained.line.verdict)
      explained.grid

-- so a loop call that main made is explained: a refused one has its line and its arguments; another one is explained
-- on the words at the call, with bytes in place of what is unwritten in its frame
pub data IsCallExplained (test : Test) (program : Program) (most : ℕ) (wants_grid : Bool) (made : LoopMade)
    (explained : LoopExplained) : Type 0 where
  WasRefused : (call : RefusedCall) → made ≡ refused_call made.slot call made.words
      → explained.line ≡ record { slot = made.slot; answer = call.answer; verdict = Refused }
      → explained.iterations ≡ call.iterations → explained.flags ≡ call.flags
      → explained.broke ≡ None → explained.strategy ≡ None → explained.causes.items ≡ [] → explained.grid ≡ None
      → IsCallExplained test program most wants_grid made explained
  WasMade : (call filled : LoopCall) (answer : ℕ) → made.call ≡ Some call → made.answer ≡ pos answer
      → IsFilled program call filled → OverApproximatesCall program filled
      → IsExplained test program filled made.words most wants_grid answer explained
      → IsCallExplained test program most wants_grid made explained

-- whether a grid is wanted after a loop call of which this one is shown, or none
abbrev pub still_wants : (wants_grid : Bool) → Option Grid → Bool
still_wants wants_grid grid = wants_grid && is_none grid

-- and after several
abbrev pub wants_after : Bool → List LoopExplained → Bool
wants_after wants_grid [] = wants_grid
wants_after wants_grid (explained ∷ loops) = wants_after (still_wants wants_grid explained.grid) loops

-- so loop calls are explained, one by one; a grid is wanted up to the first of which it is shown
abbrev pub AreExplained : Test → Program → (most : ℕ) → (wants_grid : Bool) → List LoopMade → List LoopExplained
    → Type 0
AreExplained test program most wants_grid [] [] = Unit {0}
AreExplained test program most wants_grid (made ∷ calls) (explained ∷ loops) =
    IsCallExplained test program most wants_grid made explained
    × AreExplained test program most (still_wants wants_grid explained.grid) calls loops
AreExplained test program most wants_grid _ _ = ⊥

-- and so are those that main makes in a program that ends
abbrev pub IsEachExplained : Test → Program → (most : ℕ) → (wants_grid : Bool) → BoundedResult Finished
    → List LoopExplained → Type 0
IsEachExplained test program most wants_grid (Ended f) loops = AreExplained test program most wants_grid f.loops loops
IsEachExplained test program most wants_grid _ loops = ⊥

-- the lines of loop calls
abbrev pub report_lines : List LoopExplained → List LoopReport
report_lines loops = map (λ (explained : LoopExplained). explained.line) loops
