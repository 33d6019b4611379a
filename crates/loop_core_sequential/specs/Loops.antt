-- What running a loop in order gives.
use Rattle.std.specs.Prelude.{◌≡◌, ℕ}
use Rattle.array_maps.specs.MapList.{MapList}
use Rattle.bpf_insn_types.specs.Program.{Program}
use Rattle.bpf_step_model.specs.{State.{LoopCall}, Run.{Ended}, LoopInOrder.{loop_in_order}}

-- the loop in order on the old maps ends with this answer and leaves the new ones, which are of the old sizes; an
-- iteration takes at most 4,096 instructions
pub record RanLoopInOrder (program : Program) (call : LoopCall) (old new : MapList) (answer : ℕ) : Type 0 where
  pub told : loop_in_order program 4096 call old.words ≡ Ended (record { answer = answer; words = new.words })
  pub kept : new.sizes ≡ old.sizes
