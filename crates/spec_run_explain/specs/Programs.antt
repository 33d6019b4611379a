-- Explanations of a program's loops.
use Rattle.std.specs.Prelude.{◌≡◌, ℕ, Bool, List}
use Rattle.array_maps.specs.MapList.{MapList}
use Rattle.bpf_insn_types.specs.Program.{Program}
use Rattle.bpf_step_model.specs.ProgramInOrder.{LoopMade, program_in_order}
use Rattle.loop_core_model.specs.declared.{loop_test.Test.{Test}, verdict.LoopReport.{LoopReport}}
use Rattle.loop_core_model.specs.Report.{loop_report}
use Rattle.spec_run_main.specs.{Reports.{IsReportByTest}, Lines.{AreLines}}
use Rattle.loop_core_witness.specs.declared.explained.{Explained.{Explained}, LoopExplained.{LoopExplained}}
use Rattle.spec_run_explain.specs.Causes.{AreExplained, IsEachExplained, report_lines}

-- the report is that of a run whose loops may run in parallel, from the old maps to the new ones; its lines are those
-- of the loops that are explained, and these are, one by one, the loop calls that main makes where the program runs in
-- order
pub record IsProgramExplained (test : Test) (program : Program) (most : ℕ) (wants_grid : Bool) (argument : ℕ)
    (old new : MapList) (explanation : Explained) : Type 0 where
  pub report : IsReportByTest test program argument old new explanation.report
  pub lines : report_lines explanation.loops.items ≡ explanation.report.loops.items
  pub explained : IsEachExplained test program most wants_grid (program_in_order program 4096 argument old.words)
      explanation.loops.items

-- so these loop calls are reported so far: they are explained, one by one, and have these lines
pub record AreExplainedSoFar (test : Test) (program : Program) (most : ℕ) (wants_grid : Bool) (calls : List LoopMade)
    (lines : List LoopReport) (loops : List LoopExplained) : Type 0 where
  pub reported : AreLines (loop_report test program 4096) calls lines
  pub lines_are : report_lines loops ≡ lines
  pub explained : AreExplained test program most wants_grid calls loops
