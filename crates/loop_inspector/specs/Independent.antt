-- Loops that pass whatever the words of the maps are.
use Rattle.std.specs.Prelude.{◌≡◌, ℕ, List}
use Rattle.bpf_insn_types.specs.Program.{Program}
use Rattle.bpf_step_model.specs.{State.{LoopCall}, Run.{Ended}}
use Rattle.bpf_verify_sound.specs.Soundness.{AreMapWords}
use Rattle.loop_core_model.specs.declared.{loop_test.Test.TheVariants.{Flow}, verdict.Verdict.TheVariants.{Parallel}}
use Rattle.loop_core_model.specs.Report.{verdict}

-- a loop call passes by the flow test on any words of the maps
abbrev pub AlwaysPasses : Program → LoopCall → Type 0
AlwaysPasses program call = (words : List ℕ) → AreMapWords program words → verdict Flow program 4096 call words
    ≡ Ended Parallel
