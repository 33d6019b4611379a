-- Loops that add up.
use Rattle.std.{proofs.Common.{◌≡◌, ℕ, length, Result, Ok, Err, IfOk, ◌∙◌, ap}, specs.List.{sum}}
use Rattle.array_maps.specs.MapList.{MapList, AreWords}
use Rattle.bpf_insn_types.specs.Program.{Program}
use Rattle.bpf_step_model.specs.State.{LoopCall}
use Rattle.loop_core_model.specs.declared.{loop_test.Test.{Test}, verdict.Verdict.TheVariants.{Parallel}}
use Rattle.loop_core_sequential.specs.Loops.{RanLoopInOrder}
use Rattle.spec_run_loop.specs.{SumLoops.{SumLoopOf, AlwaysPasses}, declared.decision.LoopAnswer.{LoopAnswer}}
use Rattle.loop_core_gather.specs.Gathered.{IsOutcome}
use Rattle.loop_core_split.specs.declared.strategy.Strategy.{Strategy}
use Rattle.spec_run_loop.proofs.PassLaws.{passed}

-- a loop that adds up, and what was done in order, is its outcome
pub passed_so : (l : SumLoopOf) (start left : MapList) (answer : ℕ) (strategy : Strategy) (told : LoopAnswer)
    → AlwaysPasses l
    → length start.words ≡ sum start.sizes → start.sizes ≡ l.program.sizes → AreWords start.words
    → told ≡ record { verdict = Parallel; answer = answer; strategy = strategy }
    → RanLoopInOrder l.program l.call start left answer
    → (test : Test) → IsOutcome test l.program l.call start told.verdict told.answer left
passed_so l start left answer strategy told passes count sizes fit told_is ran test =
    passed test l.program l.call start left answer strategy told told_is
    (passes test start.words (record { count = count ∙ ap sum sizes; fit = fit })) ran

-- its outcome by any test is the call's by one of them
pub if_told : {E : Type 0} → (l : SumLoopOf) (program : Program) (call : LoopCall) (start left : MapList)
    (told : Result LoopAnswer E) → l.program ≡ program → l.call ≡ call
    → IfOk told (λ a. (t : Test) → IsOutcome t l.program l.call start a.verdict a.answer left)
    → (test : Test) → IfOk told (λ a. IsOutcome test program call start a.verdict a.answer left)
if_told l program call start left (Ok a) same_program same_call outcomes test =
    rw (← same_program, ← same_call) (outcomes test)
if_told l program call start left (Err e) same_program same_call outcomes test = tt
