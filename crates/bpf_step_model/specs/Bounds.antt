-- A bound decides nothing but whether there is an answer yet.
use Rattle.std.specs.Prelude.{◌≡◌, ℕ, ◌≤◌, ◌⊎◌, List}
use Rattle.bpf_insn_types.specs.Program.{Program}
use Rattle.bpf_step_model.specs.{State.{Machine, LoopCall}, Run.{BoundedResult, Unfinished, run}, Iteration.{iteration}}
use Rattle.bpf_step_model.specs.{LoopInOrder.{loop_in_order}, ProgramInOrder.{program_in_order}}

-- the first is not finished, or the second is the same
abbrev pub Extends : {A : Type 0} → BoundedResult A → BoundedResult A → Type 0
Extends short long = (short ≡ Unfinished) ⊎ (long ≡ short)

-- with a greater bound what ended ends the same way, and what was stuck is stuck
pub record GreaterBoundAgrees : Type 0 where
  pub runs : (program : Program) (low high : ℕ) → low ≤ high → (m : Machine) (words : List ℕ)
      → Extends (run program low m words) (run program high m words)
  pub iterations : (program : Program) (low high : ℕ) → low ≤ high → (call : LoopCall) (index : ℕ) (words : List ℕ) →
      Extends (iteration program low call index words) (iteration program high call index words)
  pub loops : (program : Program) (low high : ℕ) → low ≤ high → (call : LoopCall) (words : List ℕ) →
      Extends (loop_in_order program low call words) (loop_in_order program high call words)
  pub programs : (program : Program) (low high : ℕ) → low ≤ high → (argument : ℕ) (words : List ℕ) →
      Extends (program_in_order program low argument words) (program_in_order program high argument words)
