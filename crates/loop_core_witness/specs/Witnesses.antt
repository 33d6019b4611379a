-- The least pair of iterations that fails a test at an element.
use Rattle.std.specs.Prelude.{◌≡◌, ℕ, ◌≤◌, false, List, Option, Some, None}
use Rattle.array_maps.specs.Accesses.{Action, Access}
use Rattle.bpf_insn_types.specs.Program.{Program}
use Rattle.bpf_step_model.specs.{State.{LoopCall}, Run.{Ended}}
use Rattle.loop_core_model.specs.{declared.loop_test.Test.{Test}, Conflict.{fails, at_element, FailingPair}}
use Rattle.loop_core_model.specs.LeastBreak.{counted_runs}
use Rattle.loop_core_trace.specs.Places.{FirstWriteAt, ExposedReadAt}
use Rattle.loop_core_witness.specs.declared.witness.Witness.{Witness}

-- no failing pair has a lesser reader, and none with this reader a lesser writer
pub record IsLeastPair (test : Test) (iterations : List (List Action)) (pair : FailingPair test iterations) : Type 0
  where
    pub reader : (other : FailingPair test iterations) → pair.reader ≤ other.reader
    pub writer : (other : FailingPair test iterations) → other.reader ≡ pair.reader → pair.writer ≤ other.writer

-- it is the least failing pair of these iterations, and the slots are those of the writer's first write and of the
-- reader's exposed read
pub record IsWitness (test : Test) (program : Program) (call : LoopCall) (words : List ℕ) (element : ℕ)
    (iterations : List (List Action)) (witness : Witness) : Type 0 where
  pub pair : FailingPair test iterations
  pub least : IsLeastPair test iterations pair
  pub writer : pair.writer ≡ witness.writer.index
  pub reader : pair.reader ≡ witness.reader.index
  pub written : FirstWriteAt program call witness.writer.index words element witness.writer.slot
  pub read : ExposedReadAt program call witness.reader.index words element witness.reader.slot

-- a witness, or none where the test doesn't fail
abbrev pub WitnessIs : Test → Program → LoopCall → List ℕ → (element : ℕ) → List (List Action) → Option Witness → Type 0
WitnessIs test program call words element iterations None = fails test iterations ≡ false
WitnessIs test program call words element iterations (Some witness) =
    IsWitness test program call words element iterations witness

-- so it is of the counted iterations of a loop call on these words
pub record Explains (test : Test) (program : Program) (call : LoopCall) (words : List ℕ) (element : ℕ)
    (witness : Option Witness) : Type 0 where
  pub runs : List (List Access)
  pub counted : counted_runs program 4096 call words ≡ Ended runs
  pub pair : WitnessIs test program call words element (at_element element runs) witness
