-- The first valid loop call of a program.
use Rattle.std.specs.{Prelude.{ℕ, ◌+◌, List, [], ◌∷◌, Option, None}, Option.{option_map, option_or}}
use Rattle.bpf_insn_types.specs.Program.{Program}
use Rattle.bpf_step_model.specs.{State.{LoopCall}, Run.{BoundedResult, mapped}}
use Rattle.bpf_step_model.specs.ProgramInOrder.{LoopMade, program_in_order}

-- a valid loop call: its number among all that main made, the call, and the words as they were at it
pub record ValidLoop : Type 0 where
  pub number : ℕ
  pub call : LoopCall
  pub words : List ℕ

-- the first of some loop calls that was valid, where they are numbered on from this number
abbrev pub first_valid : ℕ → List LoopMade → Option ValidLoop
first_valid number [] = None
first_valid number (made ∷ loops) =
    option_or (option_map (λ call. record { number = number; call = call; words = made.words }) made.call)
    (first_valid (number + 1) loops)

-- the first valid loop call of a program in order, numbered from 0
abbrev pub first_loop : Program → ℕ → ℕ → List ℕ → BoundedResult (Option ValidLoop)
first_loop program bound argument words =
    mapped (λ f. first_valid 0 f.loops) (program_in_order program bound argument words)
