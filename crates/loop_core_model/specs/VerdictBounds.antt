-- A bound decides nothing of a verdict but whether there is one yet.
use Rattle.std.specs.Prelude.{ℕ, ◌≤◌, List}
use Rattle.bpf_insn_types.specs.Program.{Program}
use Rattle.bpf_step_model.specs.{State.{LoopCall}, Bounds.{Extends}}
use Rattle.loop_core_model.specs.{declared.loop_test.Test.{Test}, LeastBreak.{counted_runs}}
use Rattle.loop_core_model.specs.Report.{verdict, report, report_in_order}

-- with a greater bound the counted iterations, the verdicts and the reports that are there stay the same
pub record VerdictsAgree : Type 0 where
  pub runs : (program : Program) (low high : ℕ) → low ≤ high → (call : LoopCall) (words : List ℕ) →
      Extends (counted_runs program low call words) (counted_runs program high call words)
  pub verdicts : (test : Test) (program : Program) (low high : ℕ) → low ≤ high → (call : LoopCall) (words : List ℕ) →
      Extends (verdict test program low call words) (verdict test program high call words)
  pub reports : (test : Test) (program : Program) (low high : ℕ) → low ≤ high → (argument : ℕ) (words : List ℕ) →
      Extends (report test program low argument words) (report test program high argument words)
  pub reports_in_order : (program : Program) (low high : ℕ) → low ≤ high → (argument : ℕ) (words : List ℕ) →
      Extends (report_in_order program low argument words) (report_in_order program high argument words)
