-- The outcome of a loop, by its gathered blocks.
use Rattle.std.specs.Prelude.{◌≡◌, ℕ, List, map, length}
use Rattle.array_maps.specs.MapList.{MapList}
use Rattle.bpf_insn_types.specs.Program.{Program}
use Rattle.bpf_step_model.specs.{State.{LoopCall}, Run.{Ended}}
use Rattle.loop_core_model.specs.declared.{loop_test.Test.{Test}, verdict.Verdict.{Verdict, TheVariants.{Parallel}}}
use Rattle.loop_core_model.specs.{Report.{verdict}, Gather.{Block}, Outcome.{Outcome, outcome}}
use Rattle.loop_core_block.specs.{Blocks.{BlockOf}, Ran.{as_gathered}}
use Rattle.loop_core_gather.specs.Held.{GatheredOf}

-- blocks as they are gathered
abbrev pub all_gathered : Program → LoopCall → List ℕ → List BlockOf → List Block
all_gathered program call words blocks = map (as_gathered program call words) blocks

-- the outcome that gathered blocks give
abbrev pub outcome_of : GatheredOf → Outcome
outcome_of g = record { verdict = g.verdict; answer = g.answer; words = g.words }

-- the verdict is the loop's; where it passes, the answer and the words are those of its outcome; and these words are
-- the start words
pub record HasOutcome (test : Test) (program : Program) (call : LoopCall) (words : List ℕ) (g : GatheredOf) : Type 0
  where
    pub ended : verdict test program 4096 call words ≡ Ended g.verdict
    pub passes : g.verdict ≡ Parallel → outcome test program 4096 call words ≡ Ended (outcome_of g)
    pub count : length g.words ≡ length words
    pub starts : g.start ≡ words

-- the outcome of a loop call from these maps: the verdict, the answer, and the maps after it, which are of the same
-- sizes
pub record IsOutcome (test : Test) (program : Program) (call : LoopCall) (start : MapList) (verdict : Verdict)
    (answer : ℕ) (left : MapList) : Type 0 where
  pub outcome_is : outcome test program 4096 call start.words ≡ Ended (record {
    verdict = verdict;
    answer = answer;
    words = left.words;
  })
  pub sizes : left.sizes ≡ start.sizes
