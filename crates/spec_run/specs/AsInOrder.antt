-- What a run gives whose loops may run in parallel.
use Rattle.std.specs.Prelude.{◌≡◌, ℕ, Result, IfOk, IfErr, OnErr}
use Rattle.array_maps.specs.MapList.{MapList}
use Rattle.bpf_insn_types.specs.Program.{Program}
use Rattle.spec_run_loop.specs.declared.error.RunError.{RunError, TheVariants.{Memory}}
use Rattle.loop_core_split.specs.{declared.plan.Plan.{Plan}, Plans.{IsPlan}}
use Rattle.spec_run_main.specs.{declared.report.Report.{Report}, Reports.{IsReportByTest}}

-- The main theorem: run gives exactly the return value, maps and report of the program run in order, or runs out of
-- memory and leaves the maps unchanged, for every number of workers, split and schedule. Of the plan the test alone
-- occurs in what it gives, and of a schedule nothing does. No iteration is stuck, speculative ones included, and each
-- ends within the count that the verifier reports
pub record RunsAsInOrder (program : Program) (argument : ℕ) (plan : Plan) (old new : MapList)
    (result : Result Report RunError) : Type 0 where
  -- a report, the return value in it and the new maps are exactly those of the program run in order, and its
  -- iterations end
  pub gives : IfOk result (λ report. IsReportByTest plan.test program argument old new report)
  -- if the maps are of the program's sizes and the plan is within its limits, it fails only when memory runs out
  pub refuses : IfErr result (λ refusal. old.sizes ≡ program.sizes → IsPlan plan → refusal ≡ Memory)
  -- a refusal leaves the maps unchanged
  pub unchanged : OnErr result (new ≡ old)
