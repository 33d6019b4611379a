-- What planes tell of the iterations that were ended on them.
use Rattle.std.specs.Prelude.{◌≡◌, ℕ, ◌+◌, ◌/◌, ◌<◌, ◌≤◌, false, List, [], ◌∷◌, ◌++◌, length, slice_index}
use Rattle.array_maps.specs.{declared.access.Op.{Op, TheVariants.{Add, Or, And, Xor, AddH}}, Accesses.{Action}}
use Rattle.loop_core_model.specs.{declared.loop_test.Test.{Test, TheVariants.{Lrpd, Flow}}, Planes.{bit_of}}
use Rattle.loop_core_model.specs.Marks.{Visit, Marks, marks_of, first_number}
use Rattle.shadow_marks.specs.declared.planes.{LrpdPlanes.{LrpdPlanes}, FlowPlanes.{FlowPlanes}, Tested.{Tested}}
use Rattle.shadow_marks.specs.declared.planes.{Tested.TheVariants.{Lrpd as ByLrpd, Flow as ByFlow}, Planes.{Planes}}
use Rattle.shadow_marks.specs.declared.planes.OperatorPlanes.{OperatorPlanes}

-- how many words have a bit for each element
abbrev pub words_for : ℕ → ℕ
words_for elements = (elements + 63) / 64

-- a plane of bits for n elements, zero past the end
pub record IsBitPlane (elements : ℕ) (words : List ℕ) : Type 0 where
  pub count : length words ≡ words_for elements
  pub past : (e : ℕ) → elements ≤ e → bit_of words e ≡ false

-- the plane of an operator
abbrev pub plane_by : OperatorPlanes → Op → List ℕ
plane_by planes Add = planes.add.items
plane_by planes Or = planes.or.items
plane_by planes And = planes.and.items
plane_by planes Xor = planes.xor.items
plane_by planes AddH = planes.addh.items

-- what is said of a plane holds of the plane of each operator
pub record EachPlane (P : List ℕ → Type 0) (planes : OperatorPlanes) : Type 0 where
  pub add : P planes.add.items
  pub or : P planes.or.items
  pub and : P planes.and.items
  pub xor : P planes.xor.items
  pub addh : P planes.addh.items

-- the planes of one test are whole
pub record AreLrpdPlanes (elements : ℕ) (planes : LrpdPlanes) : Type 0 where
  pub written : IsBitPlane elements planes.written.items
  pub written_by_two : IsBitPlane elements planes.written_by_two.items
  pub read_only : IsBitPlane elements planes.read_only.items
  pub read_and_written : IsBitPlane elements planes.read_and_written.items

pub record AreFlowPlanes (elements : ℕ) (planes : FlowPlanes) : Type 0 where
  pub first : length planes.first.items ≡ elements
  pub last : length planes.last.items ≡ elements

abbrev pub AreTested : ℕ → Tested → Type 0
AreTested elements (ByLrpd planes) = AreLrpdPlanes elements planes
AreTested elements (ByFlow planes) = AreFlowPlanes elements planes

-- planes are whole: each has a bit or a number for each element
pub record ArePlanes (planes : Planes) : Type 0 where
  pub plain : IsBitPlane planes.elements planes.plain.items
  pub by : (op : Op) → IsBitPlane planes.elements (plane_by planes.operators op)
  pub tested : AreTested planes.elements planes.tested

-- the test that planes are for
abbrev pub test_of : Tested → Test
test_of (ByLrpd planes) = Lrpd
test_of (ByFlow planes) = Flow

-- at an element planes have these marks, as far as a test needs them
pub record LrpdStandAt (planes : LrpdPlanes) (e : ℕ) (marks : Marks) : Type 0 where
  pub written : bit_of planes.written.items e ≡ marks.written
  pub written_by_two : bit_of planes.written_by_two.items e ≡ marks.written_by_two
  pub read_only : bit_of planes.read_only.items e ≡ marks.read_only
  pub read_and_written : bit_of planes.read_and_written.items e ≡ marks.read_and_written

pub record FlowStandAt (planes : FlowPlanes) (e : ℕ) (marks : Marks) : Type 0 where
  pub first : slice_index planes.first.items e ≡ first_number marks.first
  pub last : slice_index planes.last.items e ≡ marks.last

abbrev pub TestedStandAt : Tested → ℕ → Marks → Type 0
TestedStandAt (ByLrpd planes) e marks = LrpdStandAt planes e marks
TestedStandAt (ByFlow planes) e marks = FlowStandAt planes e marks

-- and for both tests
pub record StandAt (planes : Planes) (e : ℕ) (marks : Marks) : Type 0 where
  pub plain : bit_of planes.plain.items e ≡ marks.plain
  pub by : (op : Op) → bit_of (plane_by planes.operators op) e ≡ marks.by op
  pub tested : TestedStandAt planes.tested e marks

-- no bit says that an iteration accessed an element of a page: each access is plain or by an operator
pub record IsUnmarkedPage (planes : Planes) (page : ℕ) : Type 0 where
  pub plain : slice_index planes.plain.items page ≡ 0
  pub by : (op : Op) → slice_index (plane_by planes.operators op) page ≡ 0

-- planes stand for iterations, of which each element has a list: what was done there by each
pub record StandFor (planes : Planes) (visits : ℕ → List Visit) : Type 0 where
  pub whole : ArePlanes planes
  pub marks : (e : ℕ) → e < planes.elements → StandAt planes e (marks_of (visits e))

-- no iteration
abbrev pub no_visits : ℕ → List Visit
no_visits e = []

-- one iteration more, of this index, which did these actions at each element
abbrev pub one_more : (ℕ → List Visit) → ℕ → (ℕ → List Action) → ℕ → List Visit
one_more visits index actions e = visits e ++ (record { index = index; actions = actions e }) ∷ []
