-- The law of batches: a loop in order may do a batch of iterations at once, which change what none of them loads.
use Rattle.std.specs.Prelude.{◌≡◌, ℕ, ◌+◌, ◌<◌, List}
use Rattle.array_maps.specs.{Accesses.{Access, words_after_all}, MapList.{AreWords}}
use Rattle.bpf_insn_types.specs.Program.{Program}
use Rattle.bpf_step_model.specs.{State.{LoopCall}, Run.{Ended}, Iteration.{Iterated, iteration}}
use Rattle.bpf_step_model.specs.LoopInOrder.{loop_from}
use Rattle.loop_core_model.specs.Effects.{Effect, accesses_on, words_after_effects, EffectLog, effects_of}
use Rattle.loop_core_model.specs.Effects.{words_after_each_lane, LoadsSame}

-- the iteration of this index on these words ends, returns 0 and makes these accesses
pub record EndsInZero (program : Program) (bound : ℕ) (call : LoopCall) (index : ℕ) (words : List ℕ)
    (accesses : List Access) : Type 0 where
  pub iterated : Iterated
  pub ended : iteration program bound call index words ≡ Ended iterated
  pub returned : iterated.ret ≡ 0
  pub made : iterated.accesses ≡ accesses

-- the iteration of this index goes on with these effects, on these words, and leaves words below 2 ^ 64
pub record GoesOn (program : Program) (bound : ℕ) (call : LoopCall) (index : ℕ) (now : List ℕ) (effects : List Effect)
    : Type 0 where
  pub ends : EndsInZero program bound call index now (accesses_on now effects)
  pub fit : AreWords (words_after_effects effects now)

-- the iteration of this index on these words ends, returns 0 and leaves these words
pub record LeavesInZero (program : Program) (bound : ℕ) (call : LoopCall) (index : ℕ) (words left : List ℕ) : Type 0
  where
    pub iterated : Iterated
    pub ended : iteration program bound call index words ≡ Ended iterated
    pub returned : iterated.ret ≡ 0
    pub leaves : words_after_all iterated.accesses words ≡ left

-- the iteration of this index goes on, and leaves what these effects leave of these words, which are below 2 ^ 64
pub record Leaves (program : Program) (bound : ℕ) (call : LoopCall) (index : ℕ) (now : List ℕ) (effects : List Effect)
    : Type 0 where
  pub ends : LeavesInZero program bound call index now (words_after_effects effects now)
  pub fit : AreWords (words_after_effects effects now)

-- For every program, bound on an iteration's instructions, loop call and words: where the iterations from an index on,
-- one a lane, leave what these effects leave on all words on which a lane loads the same, and each loads the same after
-- those before it, the loop from that index is the loop after them, on the words after the effects of one lane after another,
-- whatever number of iterations is left.
abbrev pub LoopByEachLane : Type 0
LoopByEachLane = (program : Program) (bound : ℕ) (call : LoopCall) (first lanes left : ℕ) (words : List ℕ)
    (log : EffectLog) → AreWords words →
    ((lane : ℕ) → lane < lanes → (now : List ℕ) → AreWords now → LoadsSame words now (effects_of log lane)
    → Leaves program bound call (first + lane) now (effects_of log lane)) →
    ((lane : ℕ) → lane < lanes → LoadsSame words (words_after_each_lane log lane words) (effects_of log lane)) →
    loop_from program bound call (lanes + left) first words
    ≡ loop_from program bound call left (first + lanes) (words_after_each_lane log lanes words)
