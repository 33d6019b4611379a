-- Loops that pass.
use Rattle.std.{proofs.Common.{◌≡◌, ℕ, length, ◌∙◌, ap}, specs.List.{sum}}
use Rattle.array_maps.specs.MapList.{MapList, AreWords}
use Rattle.bpf_insn_types.specs.Program.{Program}
use Rattle.bpf_step_model.specs.{State.{LoopCall}, Run.{BoundedResult, Ended, followed}, LoopInOrder.{Looped}}
use Rattle.loop_core_model.specs.declared.{loop_test.Test.{Test, TheVariants.{Flow}}, verdict.Verdict.{Verdict}}
use Rattle.loop_core_model.specs.{declared.verdict.Verdict.TheVariants.{Parallel}, Report.{verdict}}
use Rattle.loop_core_model.specs.Outcome.{judged_as}
use Rattle.loop_inspector.specs.Independent.{AlwaysPasses}
use Rattle.spec_run_loop.specs.declared.decision.LoopAnswer.{LoopAnswer}
use Rattle.loop_core_sequential.specs.{Loops.{RanLoopInOrder}, Watched.{RanAndPasses}}
use Rattle.loop_core_gather.specs.Gathered.{IsOutcome}
use Rattle.loop_core_split.specs.declared.strategy.Strategy.{Strategy}

-- a loop that ran in order and passes by a test has this outcome
pub passed : (test : Test) (program : Program) (call : LoopCall) (start left : MapList) (answer : ℕ)
    (strategy : Strategy) (told : LoopAnswer)
    → told ≡ record { verdict = Parallel; answer = answer; strategy = strategy }
    → verdict test program 4096 call start.words ≡ Ended Parallel → RanLoopInOrder program call start left answer
    → IsOutcome test program call start told.verdict told.answer left
passed test program call start left answer strategy told told_is judged ran =
    let looped : Looped = record { answer = answer; words = left.words } in
    rw told_is record {
      outcome_is = ap (followed (judged_as (verdict test program 4096 call start.words))) ran.told
          ∙ ap (λ (v : BoundedResult Verdict). judged_as v looped) judged;
      sizes = ran.kept;
    }

pub passed_in_order : (program : Program) (call : LoopCall) (start left : MapList) (answer : ℕ) (strategy : Strategy)
    (told : LoopAnswer) → told ≡ record { verdict = Parallel; answer = answer; strategy = strategy }
    → RanAndPasses program call start left answer → IsOutcome Flow program call start told.verdict told.answer left
passed_in_order program call start left answer strategy told told_is is =
    passed Flow program call start left answer strategy told told_is is.passes is.ran

-- one whose iterations never conflict does, on maps of the program's sizes
pub independent_passes : (program : Program) (call : LoopCall) (start left : MapList) (answer : ℕ)
    → AlwaysPasses program call → length start.words ≡ sum start.sizes → start.sizes ≡ program.sizes
    → AreWords start.words → RanLoopInOrder program call start left answer → RanAndPasses program call start left answer
independent_passes program call start left answer passes count sizes fit ran = record {
  ran = ran;
  passes = passes start.words (record { count = count ∙ ap sum sizes; fit = fit });
}
