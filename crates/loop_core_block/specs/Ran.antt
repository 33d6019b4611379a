-- What a block remembers of its iterations.
use Rattle.std.specs.Prelude.{◌≡◌, ℕ, List, [], length}
use Rattle.bpf_insn_types.specs.Program.{Program}
use Rattle.bpf_step_model.specs.{State.{LoopCall}, Run.{BoundedResult, Ended, Stuck, Unfinished}, Iteration.{Iterated}}
use Rattle.loop_core_model.specs.{declared.loop_test.Test.{Test}, LeastBreak.{accesses_of_each}, Gather.{Block}}
use Rattle.loop_core_model.specs.Block.{block_run, break_from}
use Rattle.shadow_marks.specs.Standing.{test_of, StandFor}
use Rattle.private_copy.specs.{Copies.{CopyRecords}, Visits.{visits_of}}
use Rattle.loop_core_block.specs.Blocks.{BlockOf}

-- the iterations that ended; none where they didn't
abbrev pub iterations_of : BoundedResult (List Iterated) → List Iterated
iterations_of (Ended iterations) = iterations
iterations_of Stuck = []
iterations_of Unfinished = []

-- the block as it is gathered: what is run of its interval on the start words, of at most 4,096 instructions each
abbrev pub as_gathered : Program → LoopCall → List ℕ → BlockOf → Block
as_gathered program call words b = record {
  number = b.number;
  first = b.first;
  past = b.past;
  ran = iterations_of (block_run program 4096 call words b.first b.past);
}

-- its interval was run on the start words up to its first break or to its end; its planes, which are for one test, and
-- its copy represent the iterations that it ran, by rising index
pub record RecordsRun (test : Test) (program : Program) (call : LoopCall) (words : List ℕ) (b : BlockOf) : Type 0 where
  pub ran : List Iterated
  pub ended : block_run program 4096 call words b.first b.past ≡ Ended ran
  pub broke : b.broke ≡ break_from b.first ran
  pub start : b.copy.start ≡ words
  pub copy : CopyRecords b.copy (accesses_of_each ran)
  pub elements : b.planes.elements ≡ length words
  pub test_is : test_of b.planes.tested ≡ test
  pub planes : StandFor b.planes (visits_of b.first (accesses_of_each ran))
