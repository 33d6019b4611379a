-- What is reported of programs that ran to their end.
use Rattle.std.proofs.Common.{◌≡◌, ℕ, List, ap, subst, ◌∙◌}
use Rattle.array_maps.specs.MapList.{MapList}
use Rattle.bpf_insn_types.specs.Program.{Program}
use Rattle.bpf_step_model.specs.{Run.{BoundedResult}, ProgramInOrder.{LoopMade, program_in_order}}
use Rattle.loop_core_model.specs.{declared.verdict.LoopReport.{LoopReport}, Report.{reported_with}}
use Rattle.spec_run_main.specs.{Lines.{AreLines}, Programs.{RanProgram}, Reports.{IsReportOf}}
use Rattle.spec_run_main.proofs.ReportLines.{reported}

-- what it returned and the lines of its loop calls are the report, from maps of which it ran on a copy
pub report_of : (line_of : LoopMade → BoundedResult LoopReport) {AreRecorded : List LoopMade → Type 0}
    {program : Program} {argument ret : ℕ} {copy old new : MapList} {lines : List LoopReport}
    (ran : RanProgram AreRecorded program argument copy new ret) → AreLines line_of ran.calls lines → copy ≡ old
    → old.sizes ≡ program.sizes →
    IsReportOf (reported_with line_of (program_in_order program 4096 argument old.words)) program argument old new ret
    lines
report_of line_of {AreRecorded} {program} {argument} {ret} {copy} {old} {new} {lines} ran are same sizes =
    subst (λ (maps : MapList). IsReportOf (reported_with line_of (program_in_order program 4096 argument maps.words))
    program argument maps new ret lines) same
    (record {
      sizes = ap (λ (maps : MapList). maps.sizes) same ∙ sizes;
      kept = ran.kept;
      gives = reported line_of (program_in_order program 4096 argument copy.words)
          (record { ret = ret; loops = ran.calls; words = new.words }) ran.gives are;
      ends = ran.ends;
    })
