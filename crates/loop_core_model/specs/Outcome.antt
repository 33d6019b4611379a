-- The outcome of a speculative loop.
use Rattle.std.specs.Prelude.{ℕ, Bool, List, Result, Ok, Err}
use Rattle.bpf_insn_types.specs.Program.{Program}
use Rattle.bpf_step_model.specs.{State.{LoopCall}, Run.{BoundedResult, mapped, followed}, Iteration.{iteration}}
use Rattle.bpf_step_model.specs.LoopInOrder.{Looped, loop_in_order}
use Rattle.loop_core_model.specs.{declared.{loop_test.Test.{Test}, verdict.Verdict.{Verdict}}, LeastBreak.{is_break}}
use Rattle.loop_core_model.specs.{Report.{verdict}, declared.event.Event.{Event}, Schedule.{ScheduleState, replay}}
use Rattle.loop_core_model.specs.declared.replay_fault.ReplayFault.{ReplayFault}

-- a loop's verdict, what it answers, and the words after it
pub record Outcome : Type 0 where
  pub verdict : Verdict
  pub answer : ℕ
  pub words : List ℕ

-- the verdict with what a loop answers and leaves
abbrev pub judged_as : BoundedResult Verdict → Looped → BoundedResult Outcome
judged_as told looped = mapped (λ v. record { verdict = v; answer = looped.answer; words = looped.words }) told

-- the outcome of a loop call by a test: the answer and the words of the loop in order, and the verdict. No split,
-- worker or schedule occurs in it
abbrev pub outcome : Test → Program → ℕ → LoopCall → List ℕ → BoundedResult Outcome
outcome test program bound call words = followed (judged_as (verdict test program bound call words))
    (loop_in_order program bound call words)

-- whether an iteration on the start words returns 1
abbrev pub breaks_at : Program → ℕ → LoopCall → List ℕ → ℕ → Bool
breaks_at program bound call words index = is_break (iteration program bound call index words)

-- a value in place of the state where a list of events has ended
abbrev pub unless_fault : {A : Type 0} → A → Result ScheduleState ReplayFault → Result A ReplayFault
unless_fault value (Err fault) = Err fault
unless_fault value (Ok state) = Ok value

-- the outcome of a list of events against a split: the loop's outcome where the list has ended, else its first fault
abbrev pub replayed : Test → Program → ℕ → LoopCall → List ℕ → (bounds : List ℕ) → List Event
    → Result (BoundedResult Outcome) ReplayFault
replayed test program bound call words bounds events =
    unless_fault (outcome test program bound call words) (replay (breaks_at program bound call words) bounds events)
