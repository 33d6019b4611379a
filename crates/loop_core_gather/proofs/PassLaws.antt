-- Loops that pass.
use Rattle.std.proofs.Common.{◌≡◌, ℕ, List}
use Rattle.bpf_insn_types.specs.Program.{Program}
use Rattle.bpf_step_model.specs.State.{LoopCall}
use Rattle.loop_core_model.specs.declared.{loop_test.Test.{Test}, verdict.Verdict.TheVariants.{Parallel}}
use Rattle.loop_core_gather.specs.{declared.storing.LeftPage.{LeftPage}, Decisions.{Passes}, Gathered.{HasOutcome}}
use Rattle.loop_core_gather.specs.{Held.{GatheredOf}, Pages.{AreLeft}}

-- gathered blocks that pass leave these pages
pub passes_so : (test : Test) (program : Program) (call : LoopCall) (words : List ℕ) (g : GatheredOf) (answer : ℕ)
    (pages : List LeftPage) → HasOutcome test program call words g → g.verdict ≡ Parallel → answer ≡ g.answer
    → AreLeft g.start g.words pages → Passes test program call words answer pages
passes_so test program call words g answer pages has passed same left = record {
  left = g.words;
  outcome_is = rw same (rw passed at (has.passes passed));
  pages_are = rw has.starts at left;
}
