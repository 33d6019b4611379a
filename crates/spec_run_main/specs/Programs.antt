-- What running main of a program to its end gives.
use Rattle.std.specs.Prelude.{◌≡◌, ℕ, List}
use Rattle.array_maps.specs.MapList.{MapList}
use Rattle.bpf_insn_types.specs.Program.{Program}
use Rattle.bpf_step_model.specs.{Run.{Ended}, ProgramInOrder.{LoopMade, program_in_order}}
use Rattle.spec_run_main.specs.Reports.{EndsWithItsLoops}

-- main ran from its argument and the old maps to its end, returned this and left the new maps; its loop calls are
-- recorded
pub record RanProgram (AreRecorded : List LoopMade → Type 0) (program : Program) (argument : ℕ) (old new : MapList)
    (ret : ℕ) : Type 0 where
  -- the return value, the loop calls and the new maps' words are those of the program in order, where main takes at
  -- most 4,096 instructions up to each turn, and an iteration at most as many
  pub calls : List LoopMade
  pub gives : program_in_order program 4096 argument old.words
      ≡ Ended (record { ret = ret; loops = calls; words = new.words })
  -- all of these loop calls are recorded
  pub recorded : AreRecorded calls
  -- the new maps are of the old ones' sizes
  pub kept : new.sizes ≡ old.sizes
  -- the program ends, and so does each iteration of each valid loop call that it makes, on any words of the maps
  pub ends : EndsWithItsLoops program (program_in_order program 4096 argument old.words)
