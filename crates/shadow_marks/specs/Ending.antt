-- How an iteration's flags come into planes.
use Rattle.std.specs.Prelude.{◌≡◌, ◌≢◌, ℕ, ◌+◌, ◌/◌, ◌<◌, not, ◌&&◌, if◌then◌else◌, length, slice_index, min, max}
use Rattle.array_maps.specs.declared.access.Op.TheVariants.{Add, Or, And, Xor, AddH}
use Rattle.loop_core_model.specs.{Flags.{Flags}, Marks.{Marks, marks_of_one, merged}, Planes.{bit_of}}
use Rattle.shadow_marks.specs.declared.planes.{LrpdPlanes.{LrpdPlanes}, FlowPlanes.{FlowPlanes}, Tested.{Tested}}
use Rattle.shadow_marks.specs.declared.planes.{Tested.TheVariants.{Lrpd as ByLrpd, Flow as ByFlow}, Planes.{Planes}}
use Rattle.shadow_marks.specs.{declared.planes.OperatorPlanes.{OperatorPlanes}, Bits.{OrsBit, ChangesNumber}}
use Rattle.shadow_marks.specs.Standing.{ArePlanes, test_of, StandAt}

-- planes that have an element
pub record LrpdHave (planes : LrpdPlanes) (e : ℕ) : Type 0 where
  pub written : e / 64 < length planes.written.items
  pub written_by_two : e / 64 < length planes.written_by_two.items
  pub read_only : e / 64 < length planes.read_only.items
  pub read_and_written : e / 64 < length planes.read_and_written.items

pub record FlowHave (planes : FlowPlanes) (e : ℕ) : Type 0 where
  pub first : e < length planes.first.items
  pub last : e < length planes.last.items

-- the planes of a test after the flags of an element came into them
pub record LrpdFolds (old new : LrpdPlanes) (e : ℕ) (flags : Flags) : Type 0 where
  pub written : OrsBit old.written.items new.written.items e flags.wrote
  pub written_by_two : OrsBit old.written_by_two.items new.written_by_two.items e (flags.wrote
      && bit_of old.written.items e)
  pub read_only : OrsBit old.read_only.items new.read_only.items e (flags.looked && not flags.wrote)
  pub read_and_written : OrsBit old.read_and_written.items new.read_and_written.items e (flags.looked && flags.wrote)

pub record FlowFolds (old new : FlowPlanes) (e : ℕ) (flags : Flags) (index : ℕ) : Type 0 where
  pub first : ChangesNumber old.first.items new.first.items e
      (if flags.wrote then min (slice_index old.first.items e) index else slice_index old.first.items e)
  pub last : ChangesNumber old.last.items new.last.items e
      (if flags.looked then max (slice_index old.last.items e) (index + 1) else slice_index old.last.items e)

abbrev pub TestedHave : Tested → ℕ → Type 0
TestedHave (ByLrpd planes) e = LrpdHave planes e
TestedHave (ByFlow planes) e = FlowHave planes e

abbrev pub TestedFolds : (old new : Tested) (e : ℕ) (flags : Flags) (index : ℕ) → Type 0
TestedFolds (ByLrpd old) (ByLrpd new) e flags index = LrpdFolds old new e flags
TestedFolds (ByFlow old) (ByFlow new) e flags index = FlowFolds old new e flags index
TestedFolds _ _ e flags index = ⊥

-- the planes of operators after the flags of an element came into them
pub record OperatorsFold (old new : OperatorPlanes) (e : ℕ) (flags : Flags) : Type 0 where
  pub add : OrsBit old.add.items new.add.items e (flags.by Add)
  pub or : OrsBit old.or.items new.or.items e (flags.by Or)
  pub and : OrsBit old.and.items new.and.items e (flags.by And)
  pub xor : OrsBit old.xor.items new.xor.items e (flags.by Xor)
  pub addh : OrsBit old.addh.items new.addh.items e (flags.by AddH)

-- planes are still whole, for as many elements and the same test
pub record KeepsShape (old new : Planes) : Type 0 where
  pub whole : ArePlanes new
  pub elements : new.elements ≡ old.elements
  pub test : test_of new.tested ≡ test_of old.tested

-- planes after the flags of one element came into them: its marks are merged with those of the iteration, and all
-- others stay
pub record Folds (old new : Planes) (e : ℕ) (index : ℕ) (flags : Flags) : Type 0 where
  pub shape : KeepsShape old new
  pub here : (marks : Marks) → StandAt old e marks → StandAt new e (merged marks (marks_of_one index flags))
  pub others : (other : ℕ) → other ≢ e → (marks : Marks) → StandAt old other marks → StandAt new other marks
