-- The conflicts found in a loop.
use Rattle.std.specs.Prelude.{◌≡◌, ℕ, List, length, take}
use Rattle.array_maps.specs.Accesses.{Access}
use Rattle.bpf_insn_types.specs.Program.{Program}
use Rattle.bpf_step_model.specs.{State.{LoopCall}, Run.{Ended}}
use Rattle.loop_core_model.specs.{declared.loop_test.Test.{Test}, Conflict.{conflicting}, Report.{judged}}
use Rattle.loop_core_model.specs.LeastBreak.{least_break, counted_runs}
use Rattle.spec_run_explain.specs.declared.conflicts.Conflicts.{Conflicts}

-- the counted iterations of a loop call on these words end; the verdict is that on the elements that conflict, of
-- these the least are listed, at most `most`; and the least break is given
pub record AreConflicts (test : Test) (program : Program) (call : LoopCall) (words : List ℕ) (most : ℕ)
    (found : Conflicts) : Type 0 where
  pub runs : List (List Access)
  pub counted : counted_runs program 4096 call words ≡ Ended runs
  pub verdict : found.verdict ≡ judged (conflicting test runs (length words))
  pub broke : found.broke ≡ least_break program 4096 call words
  pub least : found.least.items ≡ take most (conflicting test runs (length words))
