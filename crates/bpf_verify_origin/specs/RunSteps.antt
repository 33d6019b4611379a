-- Runs are those of the machine's definition.
use Rattle.std.specs.Prelude.{ℕ, List, ◌++◌}
use Rattle.array_maps.specs.{Accesses.{Access}, MapList.{AreWords}}
use Rattle.bpf_insn_types.specs.{Values.{AreInsns}, Program.{Program}}
use Rattle.bpf_step_model.specs.{State.{Machine}, Steps.{Steps}}
use Rattle.bpf_verify_origin.specs.Runs.{RunsTo}

-- if a run reaches a machine, and steps lead from there to another, over the maps' words, the run goes on to that one;
-- and the words stay below 2 ^ 64
abbrev pub StepsAreRuns : Type 0
StepsAreRuns = (program : Program) → AreInsns program.insns → (passed : List Machine) (m : Machine)
    → RunsTo program passed m → (words : List ℕ) → AreWords words
    → (count : ℕ) (accesses : List Access) (last : Machine) (after : List ℕ)
    → Steps program count m words accesses last after
    → (more : List Machine) × RunsTo program (more ++ passed) last × AreWords after
