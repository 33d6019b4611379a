-- What is left of a loop in order, at an index, where it ends before another.
use Rattle.std.specs.Prelude.{◌≡◌, ℕ, ◌-◌, ◌≤◌, List, Option, Some, None}
use Rattle.array_maps.specs.MapList.{MapList}
use Rattle.bpf_insn_types.specs.Program.{Program}
use Rattle.bpf_step_model.specs.{State.{LoopCall}, Run.{BoundedResult, Ended}, LoopInOrder.{Looped, loop_from}}

-- the loop in order from an index up to, and without, another: an iteration takes at most 4,096 instructions
abbrev pub rest_to : Program → LoopCall → (past index : ℕ) → List ℕ → BoundedResult Looped
rest_to program call past index words = loop_from program 4096 call (past - index) index words

-- from one index to another it went on: wherever it ends from there on, what was left of it on the old maps is what is
-- left of it on the new ones, which are of the old sizes
pub record RanOn (program : Program) (call : LoopCall) (index next : ℕ) (old new : MapList) : Type 0 where
  pub on : index ≤ next
  pub within : next ≤ call.n
  pub rest : (past : ℕ) → next ≤ past → rest_to program call past index old.words ≡ rest_to program call past next
      new.words
  pub sizes : new.sizes ≡ old.sizes

-- from one index on it broke off before another: wherever it ends from there on, what was left of it on the old maps
-- ends with this answer and leaves the new ones, which are of the old sizes
pub record BrokeOff (program : Program) (call : LoopCall) (index next : ℕ) (old new : MapList) (answer : ℕ) : Type 0
  where
    pub on : index ≤ next
    pub rest : (past : ℕ) → next ≤ past → rest_to program call past index old.words
        ≡ Ended (record { answer = answer; words = new.words })
    pub sizes : new.sizes ≡ old.sizes

-- from one index to another it broke off with an answer, or went on
abbrev pub RanTo : Program → LoopCall → (index next : ℕ) → (old new : MapList) → Option ℕ → Type 0
RanTo program call index next old new (Some answer) = BrokeOff program call index next old new answer
RanTo program call index next old new None = RanOn program call index next old new

-- the loop's answer: that with which it broke off, or n
abbrev pub answer_of : Option ℕ → (n : ℕ) → ℕ
answer_of (Some answer) n = answer
answer_of None n = n
