-- What a call that main made and the same call with its frame filled have in common.
use Rattle.std.specs.Prelude.{◌≡◌, ℕ, List, None}
use Rattle.bpf_insn_types.specs.Program.{Program}
use Rattle.bpf_step_model.specs.{State.{LoopCall}, LoopInOrder.{loop_in_order}}
use Rattle.bpf_verify_sound.specs.Soundness.{IsSoundProgram, AreMapWords, OverApproximatesCall}
use Rattle.bpf_step.specs.Turns.{IsFilled}
use Rattle.loop_core_model.specs.{declared.loop_test.Test.{Test}, Report.{verdict}, Split.{split_fault}}
use Rattle.loop_core_model.specs.{declared.event.Event.{Event}, Outcome.{outcome, replayed}}

-- two calls are one loop from these words: they come to the same in order, have the same verdict and outcome by either
-- test, and lists of events come to the same against a split of their iterations
pub record AreOneLoop (program : Program) (made call : LoopCall) (words : List ℕ) : Type 0 where
  pub orders : loop_in_order program 4096 call words ≡ loop_in_order program 4096 made words
  pub judges : (test : Test) → verdict test program 4096 call words ≡ verdict test program 4096 made words
  pub comes_to : (test : Test) → outcome test program 4096 call words ≡ outcome test program 4096 made words
  pub replays : (test : Test) (bounds : List ℕ) (events : List Event) → split_fault bounds call.n ≡ None →
      replayed test program 4096 call words bounds events ≡ replayed test program 4096 made words bounds events

-- of an accepted program a call that main made and the same call with its frame filled are one loop, from any words of
-- its maps
abbrev pub FilledCallsAreOneLoop : Type 0
FilledCallsAreOneLoop = (program : Program) → IsSoundProgram program → (made call : LoopCall)
    → IsFilled program made call → OverApproximatesCall program call →
    (words : List ℕ) → AreMapWords program words → AreOneLoop program made call words
