-- What is reported of a program's loops.
use Rattle.std.specs.Prelude.{ℕ, ◌+◌, List, [], ◌∷◌, map, length, Option, Some, None}
use Rattle.bpf_insn_types.specs.Program.{Program}
use Rattle.bpf_step_model.specs.{State.{LoopCall}, Run.{BoundedResult, Ended, mapped, followed}}
use Rattle.bpf_step_model.specs.ProgramInOrder.{LoopMade, Finished, program_in_order}
use Rattle.loop_core_model.specs.declared.{loop_test.Test.{Test}, verdict.{Verdict.{Verdict}, LoopReport.{LoopReport}}}
use Rattle.loop_core_model.specs.declared.verdict.Verdict.TheVariants.{Parallel, Conflict, Refused, InOrder}
use Rattle.loop_core_model.specs.{Conflict.{conflicting}, LeastBreak.{all_ended, counted_runs}}

-- the verdict on a loop whose conflicting elements are these, rising: it passes where there is none; else they are
-- counted, and the least is named
abbrev pub judged : List ℕ → Verdict
judged [] = Parallel
judged (least ∷ others) = Conflict (length others + 1) least

-- the verdict on a valid loop call from its start words, where all counted iterations end
abbrev pub verdict : Test → Program → ℕ → LoopCall → List ℕ → BoundedResult Verdict
verdict test program bound call words =
    mapped (λ runs. judged (conflicting test runs (length words))) (counted_runs program bound call words)

-- the same where the call was valid; else it was refused
abbrev pub verdict_if_valid : Test → Program → ℕ → List ℕ → Option LoopCall → BoundedResult Verdict
verdict_if_valid test program bound words None = Ended Refused
verdict_if_valid test program bound words (Some call) = verdict test program bound call words

-- the verdict where every valid loop runs in order from the beginning
abbrev pub in_order_if_valid : Option LoopCall → Verdict
in_order_if_valid None = Refused
in_order_if_valid (Some call) = InOrder

-- a loop call's line: slot, answer and verdict
abbrev pub line : LoopMade → Verdict → LoopReport
line made told = record { slot = made.slot; answer = made.answer; verdict = told }

-- a loop call's line, where it may run in parallel
abbrev pub loop_report : Test → Program → ℕ → LoopMade → BoundedResult LoopReport
loop_report test program bound made = mapped (line made) (verdict_if_valid test program bound made.words made.call)

-- a loop call's line in order
abbrev pub loop_report_in_order : LoopMade → BoundedResult LoopReport
loop_report_in_order made = Ended (line made (in_order_if_valid made.call))

-- a program's return value, its loop calls in order, and the final words
pub record Reported : Type 0 where
  pub ret : ℕ
  pub loops : List LoopReport
  pub words : List ℕ

-- the report of a program that finished, with its lines
abbrev pub with_lines : Finished → List LoopReport → Reported
with_lines f lines = record { ret = f.ret; loops = lines; words = f.words }

-- the same, where each line is there
abbrev pub with_each_line : (LoopMade → BoundedResult LoopReport) → Finished → BoundedResult Reported
with_each_line line f = mapped (with_lines f) (all_ended (map line f.loops))

-- the report of a program, line by line, where it finished
abbrev pub reported_with : (LoopMade → BoundedResult LoopReport) → BoundedResult Finished → BoundedResult Reported
reported_with line f = followed (with_each_line line) f

-- the report of a program that may run its loops in parallel
abbrev pub report : Test → Program → ℕ → ℕ → List ℕ → BoundedResult Reported
report test program bound argument words =
    reported_with (loop_report test program bound) (program_in_order program bound argument words)

-- the report of a program in order
abbrev pub report_in_order : Program → ℕ → ℕ → List ℕ → BoundedResult Reported
report_in_order program bound argument words =
    reported_with loop_report_in_order (program_in_order program bound argument words)
