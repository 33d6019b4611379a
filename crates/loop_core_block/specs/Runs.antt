-- What a runner has run.
use Rattle.std.specs.{Prelude.{◌≡◌, ℕ, ◌+◌, ◌≤◌, Bool, ◌==◌, List, [], ◌∷◌, ◌++◌, length, Option}, List.{sum}}
use Rattle.bpf_step_model.specs.{Run.{Ended}, Iteration.{Iterated, iteration}}
use Rattle.bpf_verify_sound.specs.Soundness.{OverApproximatesCall, most_from}
use Rattle.loop_core_model.specs.{LeastBreak.{accesses_of_each}, Block.{block_run, break_from}}
use Rattle.shadow_marks.specs.Standing.{test_of, StandFor}
use Rattle.private_copy.specs.{Copies.{CopyRecords}, Shown.{copy_of}, Visits.{visits_of}}
use Rattle.loop_core_block.specs.declared.runner.Runner.{Runner}

-- the words that each iteration begins with
abbrev pub start_words : Runner → List ℕ
start_words r = (copy_of r.copy).start

-- it is for a loop call that main made, over as many words as the sizes say, and knows the most instructions of the
-- callback
pub record IsReady (r : Runner) : Type 0 where
  pub known : OverApproximatesCall r.callback.program r.callback.call
  pub count : length (start_words r) ≡ sum r.callback.program.sizes
  pub enough : most_from r.callback.program r.callback.call.callback ≤ r.most
  pub few : r.most ≤ 4096

-- it is for the same loop call, start words and test
pub record IsSame (old new : Runner) : Type 0 where
  pub callback : new.callback ≡ old.callback
  pub most : new.most ≡ old.most
  pub start : start_words new ≡ start_words old
  pub test : test_of new.planes.tested ≡ test_of old.planes.tested

-- these iterations were run, by rising index from a first one up to, and without, another
pub record RunnerHasRun (first index : ℕ) (ran : List Iterated) (r : Runner) : Type 0 where
  pub reached : index ≡ first + length ran
  pub begun : (copy_of r.copy).begun ≡ length ran
  pub copy : CopyRecords (copy_of r.copy) (accesses_of_each ran)
  pub elements : r.planes.elements ≡ length (start_words r)
  pub planes : StandFor r.planes (visits_of first (accesses_of_each ran))

-- the iteration of an index was run too, on the start words
pub record RanOneMore (index : ℕ) (old new : Runner) (broke : Bool) : Type 0 where
  pub same : IsSame old new
  pub iterated : Iterated
  pub ended : iteration old.callback.program 4096 old.callback.call index (start_words old) ≡ Ended iterated
  pub broke_is : broke ≡ (iterated.ret == 1)
  pub has_run : (first : ℕ) (ran : List Iterated) → RunnerHasRun first index ran old
      → RunnerHasRun first (index + 1) (ran ++ iterated ∷ []) new

-- the block of an interval was run on the start words, where none was run before
pub record RanUpTo (first past : ℕ) (old new : Runner) (broke : Option ℕ) : Type 0 where
  pub same : IsSame old new
  pub ran : List Iterated
  pub ended : block_run old.callback.program 4096 old.callback.call (start_words old) first past ≡ Ended ran
  pub broke_is : broke ≡ break_from first ran
  pub has_run : RunnerHasRun first (first + length ran) ran new
