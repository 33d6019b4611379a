-- What is recorded of the loop calls that main of a program makes.
use Rattle.std.specs.Prelude.{◌≡◌, ℕ, pos, List, [], ◌∷◌, ◌++◌}
use Rattle.array_maps.specs.MapList.{MapList}
use Rattle.bpf_insn_types.specs.Program.{Program}
use Rattle.bpf_step_model.specs.{declared.refused_call.RefusedCall.{RefusedCall}, State.{LoopCall}}
use Rattle.bpf_step_model.specs.{Run.{BoundedResult, Ended}, ProgramInOrder.{LoopMade, valid_call, refused_call}}
use Rattle.bpf_verify_sound.specs.Soundness.{AreMapWords, OverApproximatesCall}
use Rattle.bpf_step.specs.Turns.{IsFilled}
use Rattle.loop_core_model.specs.declared.verdict.{LoopReport.{LoopReport}, Verdict.{Verdict}}
use Rattle.loop_core_sequential.specs.{Loops.{RanLoopInOrder}, FilledCalls.{AreOneLoop}}

-- main made this loop call over these words: the other one is it with its frame filled, and they are one loop
pub record IsMadeAs (program : Program) (made call : LoopCall) (words : List ℕ) : Type 0 where
  pub filled : IsFilled program made call
  pub fit : AreMapWords program words
  pub same : AreOneLoop program made call words

-- a loop call left what it leaves in order, and this is its verdict's line, whatever call main made of it
pub record RanCall (line_of : LoopMade → BoundedResult LoopReport) (program : Program) (call : LoopCall)
    (start left : MapList) (answer : ℕ) (verdict : Verdict) : Type 0 where
  pub ran : RanLoopInOrder program call start left answer
  pub line : (made : LoopCall) → IsFilled program made call → OverApproximatesCall program call
      → AreMapWords program start.words
      → line_of (valid_call made answer start.words)
      ≡ Ended (record { slot = made.slot; answer = pos answer; verdict = verdict })

-- `records first calls now`: since the first state these calls were recorded
module _ {S : Type 0} (records : S → List LoopMade → S → Type 0) where
  -- some calls were recorded since some state
  abbrev pub HasRecorded : S → Type 0
  HasRecorded now = (first : S) × (calls : List LoopMade) × records first calls now

  -- from the old state to the new one a valid call was recorded, whichever call main made of it, after any others
  abbrev pub RecordsValid : Program → LoopCall → (words : List ℕ) → (answer : ℕ) → (old new : S) → Type 0
  RecordsValid program call words answer old new = (first : S) (calls : List LoopMade) (made : LoopCall)
      → IsMadeAs program made call words → records first calls old
      → records first (calls ++ valid_call made answer words ∷ []) new

  -- and a refused one, over any words
  abbrev pub RecordsRefused : (slot : ℕ) → RefusedCall → (old new : S) → Type 0
  RecordsRefused slot call old new = (first : S) (calls : List LoopMade) (words : List ℕ) → records first calls old
      → records first (calls ++ refused_call slot call words ∷ []) new
