-- With a greater bound a verdict that is there stays the same.
use Rattle.std.proofs.Common.{ℕ, zero, suc, ◌+◌, ◌≤◌, inr, List, [], ◌∷◌, map, length, Option, Some}
use Rattle.std.{proofs.Common.{None, refl}, specs.Prelude.{◌==◌}}
use Rattle.std.proofs.{Common.{inl}, lemmas.Bool.{cases_Bool}}
use Rattle.bpf_insn_types.specs.Program.{Program}
use Rattle.bpf_step_model.specs.{State.{LoopCall}, Run.{BoundedResult}, Iteration.{Iterated, iteration}}
use Rattle.bpf_step_model.specs.{ProgramInOrder.{LoopMade, Finished, program_in_order}, Bounds.{Extends}}
use Rattle.bpf_step_model.proofs.BoundLaws.{mapped_extends, followed_extends, iteration_extends, program_extends}
use Rattle.loop_core_model.specs.declared.{loop_test.Test.{Test}, verdict.LoopReport.{LoopReport}}
use Rattle.loop_core_model.specs.{Conflict.{conflicting}, Report.{with_lines, with_each_line, reported_with}}
use Rattle.loop_core_model.specs.LeastBreak.{in_front_of, all_ended, accesses_of_each, counted_runs}
use Rattle.loop_core_model.specs.Report.{judged, verdict, verdict_if_valid, line, loop_report, loop_report_in_order}
use Rattle.loop_core_model.specs.{Scan.{up_to_break, scan}, VerdictBounds.{VerdictsAgree}}
use Rattle.loop_core_model.proofs.ScanLaws.{counted_are_scanned}

-- a scan that is there stays the same
breaking_extends : (low high : BoundedResult (List Iterated)) → Extends low high → (it : Iterated)
    → Extends (up_to_break low it) (up_to_break high it)
breaking_extends low high ext it = elim (cases_Bool (it.ret == 1)) [
  | inl one ↦ rw one (inr refl)
  | inr on ↦ rw on (mapped_extends (λ others. it ∷ others) ext)
]

scan_extends : (few many : ℕ → BoundedResult Iterated) → ((index : ℕ) → Extends (few index) (many index))
    → (left index : ℕ) → Extends (scan few left index) (scan many left index)
scan_extends few many each zero index = inr refl
scan_extends few many each (suc left) index =
    followed_extends (up_to_break (scan few left (index + 1))) (up_to_break (scan many left (index + 1)))
    (breaking_extends (scan few left (index + 1)) (scan many left (index + 1)) (scan_extends few many each left
    (index + 1))) (few index) (many index) (each index)

pub runs_extend : (program : Program) (low high : ℕ) → low ≤ high → (call : LoopCall) (words : List ℕ) →
    Extends (counted_runs program low call words) (counted_runs program high call words)
runs_extend program low high h call words =
    let few : ℕ → BoundedResult Iterated = λ index. iteration program low call index words in
    let many : ℕ → BoundedResult Iterated = λ index. iteration program high call index words in
    mapped_extends accesses_of_each (rw (
      counted_are_scanned program low call words,
      counted_are_scanned program high call words,
    ) (scan_extends few many (λ index. iteration_extends program low high h
    call index words) call.n 0))

pub verdict_extends : (test : Test) (program : Program) (low high : ℕ) → low ≤ high → (call : LoopCall) (words : List ℕ)
    →
    Extends (verdict test program low call words) (verdict test program high call words)
verdict_extends test program low high h call words =
    mapped_extends (λ runs. judged (conflicting test runs (length words))) (runs_extend program low high h call words)

-- lines
if_valid_extends : (test : Test) (program : Program) (low high : ℕ) → low ≤ high
    → (words : List ℕ) (o : Option LoopCall) →
    Extends (verdict_if_valid test program low words o) (verdict_if_valid test program high words o)
if_valid_extends test program low high h words None = inr refl
if_valid_extends test program low high h words (Some call) = verdict_extends test program low high h call words

line_extends : (test : Test) (program : Program) (low high : ℕ) → low ≤ high → (made : LoopMade) →
    Extends (loop_report test program low made) (loop_report test program high made)
line_extends test program low high h made =
    mapped_extends (line made) (if_valid_extends test program low high h made.words made.call)

lines_extend : (few many : LoopMade → BoundedResult LoopReport) → ((made : LoopMade) → Extends (few made) (many made))
    → (loops : List LoopMade) →
    Extends (all_ended (map few loops)) (all_ended (map many loops))
lines_extend few many each [] = inr refl
lines_extend few many each (made ∷ loops) =
    followed_extends (in_front_of (all_ended (map few loops))) (in_front_of (all_ended (map many loops)))
    (λ line. mapped_extends (λ others. line ∷ others) (lines_extend few many each loops)) (few made) (many made)
    (each made)

reported_extends : (few many : LoopMade → BoundedResult LoopReport)
    → ((made : LoopMade) → Extends (few made) (many made)) → (e f : BoundedResult Finished) → Extends e f →
    Extends (reported_with few e) (reported_with many f)
reported_extends few many each e f ext =
    followed_extends (with_each_line few) (with_each_line many) (λ finished. mapped_extends (with_lines finished)
    (lines_extend few many each finished.loops)) e f ext

pub verdicts_agree : VerdictsAgree
verdicts_agree = record {
  runs = runs_extend;
  verdicts = verdict_extends;
  reports = λ test program low high h argument words.
      reported_extends (loop_report test program low) (loop_report test program high) (line_extends test program low
      high h) (program_in_order program low argument words)
      (program_in_order program high argument words) (program_extends program low high h argument words);
  reports_in_order = λ program low high h argument words.
      reported_extends loop_report_in_order loop_report_in_order (λ made. inr refl)
      (program_in_order program low argument words)
      (program_in_order program high argument words) (program_extends program low high h argument words);
}
