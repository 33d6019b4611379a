-- Searches in the counted iterations of a loop call.
use Rattle.std.specs.Prelude.{◌≡◌, ℕ, ◌≤◌, Option}
use Rattle.array_maps.specs.declared.access.Op.{Op}
use Rattle.bpf_verify_sound.specs.Soundness.{OverApproximatesCall}
use Rattle.loop_core_model.specs.declared.loop_test.Test.{Test}
use Rattle.loop_core_witness.specs.declared.{finding.Search.{Search}, kind.Kind.{Kind}, place.Place.{Place}}
use Rattle.loop_core_witness.specs.{declared.witness.Witness.{Witness}, Breaks.{AreCounted}, Firsts.{NoneDoes, FirstIs}}
use Rattle.loop_core_witness.specs.{Reductions.{AreQuiet}, Surveys.{IsSurvey}, Witnesses.{Explains}}

-- main of the program made the call, the start maps are of its sizes, it is the call's count of iterations, and the
-- survey is of the call
pub record IsSearch (search : Search) : Type 0 where
  pub known : OverApproximatesCall search.program.now search.call.now
  pub sizes : search.start.now.sizes ≡ search.program.now.sizes
  pub counts : AreCounted search.program.now search.call.now search.start.now.words search.count
  pub surveyed : IsSurvey search.program.now search.call.now search.start.now.words search.survey.now

-- none from an index up to another does what is looked for
pub record LacksUpTo (search : Search) (kind : Kind) (index past : ℕ) : Type 0 where
  pub on : index ≤ past
  pub none : NoneDoes kind search.program.now search.call.now search.start.now.words search.element index past

-- none from an index up to another ends a reduction by this operator
pub record IsQuietUpTo (search : Search) (op : Option Op) (index past : ℕ) : Type 0 where
  pub on : index ≤ past
  pub quiet : AreQuiet search.program.now search.call.now search.start.now.words search.element op index past

-- the first counted iteration from an index on that does what is looked for, where one does
abbrev pub FindsFirst : Search → Kind → (from : ℕ) → Option Place → Type 0
FindsFirst search kind from found = FirstIs kind search.program.now search.call.now search.start.now.words
    search.element from search.count found

-- the least pair of counted iterations that fails a test, where one does
abbrev pub FindsPair : Search → Test → Option Witness → Type 0
FindsPair search test found = Explains test search.program.now search.call.now search.start.now.words search.element
    found
