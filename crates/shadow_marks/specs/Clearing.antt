-- Marks that are taken away, page by page. A page is 64 elements: it has one word of each plane of bits.
use Rattle.std.specs.Prelude.{◌≡◌, ◌≢◌, ℕ, ◌/◌, ◌<◌, false, List, length, slice_index}
use Rattle.array_maps.specs.declared.access.Op.{Op}
use Rattle.loop_core_model.specs.{Marks.{Marks, no_marks}, Planes.{bit_of}}
use Rattle.shadow_marks.specs.declared.planes.{LrpdPlanes.{LrpdPlanes}, FlowPlanes.{FlowPlanes}, Tested.{Tested}}
use Rattle.shadow_marks.specs.declared.planes.{Tested.TheVariants.{Lrpd as ByLrpd, Flow as ByFlow}, Planes.{Planes}}
use Rattle.shadow_marks.specs.{declared.planes.OperatorPlanes.{OperatorPlanes}, Standing.{StandAt, plane_by}}
use Rattle.shadow_marks.specs.Ending.{KeepsShape}

-- the bits of a page's elements are taken away in a plane
pub record ClearsBits (old new : List ℕ) (page : ℕ) : Type 0 where
  pub count : length new ≡ length old
  pub here : (e : ℕ) → e / 64 ≡ page → bit_of new e ≡ false
  pub others : (e : ℕ) → e / 64 ≢ page → bit_of new e ≡ bit_of old e

-- the numbers of a page's elements are set to one number
pub record SetsNumbers (old new : List ℕ) (page number : ℕ) : Type 0 where
  pub count : length new ≡ length old
  pub here : (e : ℕ) → e < length old → e / 64 ≡ page → slice_index new e ≡ number
  pub others : (e : ℕ) → e / 64 ≢ page → slice_index new e ≡ slice_index old e

-- the planes of operators, and those of a test
abbrev pub OperatorsClear : (old new : OperatorPlanes) (page : ℕ) → Type 0
OperatorsClear old new page = (op : Op) → ClearsBits (plane_by old op) (plane_by new op) page

pub record LrpdClears (old new : LrpdPlanes) (page : ℕ) : Type 0 where
  pub written : ClearsBits old.written.items new.written.items page
  pub written_by_two : ClearsBits old.written_by_two.items new.written_by_two.items page
  pub read_only : ClearsBits old.read_only.items new.read_only.items page
  pub read_and_written : ClearsBits old.read_and_written.items new.read_and_written.items page

pub record FlowClears (old new : FlowPlanes) (page : ℕ) : Type 0 where
  pub first : SetsNumbers old.first.items new.first.items page 4294967295
  pub last : SetsNumbers old.last.items new.last.items page 0

abbrev pub TestedClears : (old new : Tested) (page : ℕ) → Type 0
TestedClears (ByLrpd old) (ByLrpd new) page = LrpdClears old new page
TestedClears (ByFlow old) (ByFlow new) page = FlowClears old new page
TestedClears _ _ page = ⊥

-- planes after a page was cleared: its elements have no marks, and all others those that they had
pub record ClearsPage (old new : Planes) (page : ℕ) : Type 0 where
  pub shape : KeepsShape old new
  pub here : (e : ℕ) → e < old.elements → e / 64 ≡ page → StandAt new e no_marks
  pub others : (e : ℕ) → e / 64 ≢ page → (marks : Marks) → StandAt old e marks → StandAt new e marks
