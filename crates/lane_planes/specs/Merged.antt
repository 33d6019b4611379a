-- What planes are after others were merged into them, word by word. A page is 64 elements: it has one word of each
-- plane of bits, and up to 64 of the numbers.
use Rattle.std.specs.Prelude.{◌≡◌, ℕ, ◌*◌, ◌^◌, ◌<◌, ◌≤◌, min, List, ◌++◌, length, slice_index, bit_and, bit_or}
use Rattle.array_maps.specs.declared.access.Op.{Op}
use Rattle.loop_core_model.specs.Marks.{Visit, Marks, merged}
use Rattle.shadow_marks.specs.declared.planes.{LrpdPlanes.{LrpdPlanes}, FlowPlanes.{FlowPlanes}, Tested.{Tested}}
use Rattle.shadow_marks.specs.declared.planes.{Tested.TheVariants.{Lrpd, Flow}, OperatorPlanes.{OperatorPlanes}}
use Rattle.shadow_marks.specs.{declared.planes.Planes.{Planes}, Standing.{plane_by, StandAt, StandFor, words_for}}
use Rattle.shadow_marks.specs.Ending.{KeepsShape}
use Rattle.lane_planes.specs.{declared.kept.Kept.{Kept, TheVariants.{Lesser, Greater}}, Kept.{kept_of}, Writes.{Writes}}

-- in the pages from one up to another each word is the one or the other
abbrev pub Ored : (at upto : ℕ) (mine theirs joined : List ℕ) → Type 0
Ored at upto mine theirs joined = Writes (λ i. bit_or (slice_index mine i) (slice_index theirs i)) at upto mine joined

-- two iterations write where two of one set do, or one of each
abbrev pub WrittenByTwo : (at upto : ℕ) (mine theirs written also_written joined : List ℕ) → Type 0
WrittenByTwo at upto mine theirs written also_written joined =
    Writes (λ i. bit_or (bit_or (slice_index mine i) (slice_index theirs i)) (bit_and (slice_index written i)
    (slice_index also_written i))) at upto mine joined

-- of two numbers each is the one that is kept
abbrev pub Keeps : Kept → (at upto : ℕ) (mine theirs joined : List ℕ) → Type 0
Keeps kept at upto mine theirs joined = Writes (λ i. kept_of kept (slice_index mine i) (slice_index theirs i))
    (64 * at) (min (64 * upto) (length mine)) mine joined

-- first writers and last readers are numbers of 32 bits, and words have 64
pub record LrpdWordsFit (planes : LrpdPlanes) : Type 0 where
  pub written : (i : ℕ) → slice_index planes.written.items i < 2 ^ 64
  pub written_by_two : (i : ℕ) → slice_index planes.written_by_two.items i < 2 ^ 64
  pub read_only : (i : ℕ) → slice_index planes.read_only.items i < 2 ^ 64
  pub read_and_written : (i : ℕ) → slice_index planes.read_and_written.items i < 2 ^ 64

pub record FlowNumbersFit (planes : FlowPlanes) : Type 0 where
  pub first : (e : ℕ) → slice_index planes.first.items e ≤ 4294967295
  pub last : (e : ℕ) → slice_index planes.last.items e ≤ 4294967295

abbrev pub NumbersFit : Tested → Type 0
NumbersFit (Lrpd planes) = LrpdWordsFit planes
NumbersFit (Flow planes) = FlowNumbersFit planes

-- in the pages from one up to another, the planes of the operators
abbrev pub MergedOperators : (at upto : ℕ) (mine theirs joined : OperatorPlanes) → Type 0
MergedOperators at upto mine theirs joined = (op : Op) → Ored at upto (plane_by mine op) (plane_by theirs op)
    (plane_by joined op)

-- the planes of one test
pub record MergedLrpd (at upto : ℕ) (mine theirs joined : LrpdPlanes) : Type 0 where
  pub written : Ored at upto mine.written.items theirs.written.items joined.written.items
  pub written_by_two : WrittenByTwo at upto mine.written_by_two.items theirs.written_by_two.items mine.written.items
      theirs.written.items joined.written_by_two.items
  pub read_only : Ored at upto mine.read_only.items theirs.read_only.items joined.read_only.items
  pub read_and_written : Ored at upto mine.read_and_written.items theirs.read_and_written.items
      joined.read_and_written.items

pub record MergedFlow (at upto : ℕ) (mine theirs joined : FlowPlanes) : Type 0 where
  pub first : Keeps Lesser at upto mine.first.items theirs.first.items joined.first.items
  pub last : Keeps Greater at upto mine.last.items theirs.last.items joined.last.items

abbrev pub MergedTested : (at upto : ℕ) → Tested → Tested → Tested → Type 0
MergedTested at upto (Lrpd mine) (Lrpd theirs) (Lrpd joined) = MergedLrpd at upto mine theirs joined
MergedTested at upto (Flow mine) (Flow theirs) (Flow joined) = MergedFlow at upto mine theirs joined
MergedTested at upto _ _ _ = ⊥

-- all planes, in the pages from one up to another; in the others they are as they were
pub record MergedPages (at upto : ℕ) (mine theirs joined : Planes) : Type 0 where
  pub elements : joined.elements ≡ mine.elements
  pub plain : Ored at upto mine.plain.items theirs.plain.items joined.plain.items
  pub operators : MergedOperators at upto mine.operators theirs.operators joined.operators
  pub tested : MergedTested at upto mine.tested theirs.tested joined.tested

-- and in all pages
abbrev pub MergedPlanes : (mine theirs joined : Planes) → Type 0
MergedPlanes mine theirs joined = MergedPages 0 (words_for mine.elements) mine theirs joined

-- at each element the visits of the one and then those of the other
abbrev pub joined_visits : (mine theirs : ℕ → List Visit) → ℕ → List Visit
joined_visits mine theirs e = mine e ++ theirs e

-- planes after a merge: what each word is; as many elements and the same test as before; at each element the marks of
-- both, merged; and where both stood for visits, they stand for the visits of both
pub record IsMerge (mine theirs joined : Planes) : Type 0 where
  pub words : MergedPlanes mine theirs joined
  pub shape : KeepsShape mine joined
  pub marks : (e : ℕ) (a b : Marks) → e < mine.elements → StandAt mine e a → StandAt theirs e b
      → StandAt joined e (merged a b)
  pub visits : (my their : ℕ → List Visit) → StandFor mine my → StandFor theirs their
      → StandFor joined (joined_visits my their)

-- planes stand for some iterations, whatever they are
pub record StandForSome (planes : Planes) : Type 0 where
  pub visits : ℕ → List Visit
  pub stand : StandFor planes visits
