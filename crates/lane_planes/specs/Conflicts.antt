-- What a plane of conflicts is, word by word.
use Rattle.std.specs.Prelude.{◌≡◌, ℕ, ◌+◌, ◌/◌, ◌^◌, ◌<◌, List, [], ◌∷◌, length, slice_index, bit_and, bit_or}
use Rattle.std.specs.List.{filter, range_with_len}
use Rattle.loop_core_model.specs.{Marks.{Visit, Marks, marks_of, marked_conflict}, Planes.{bit_of, elements_in_plane}}
use Rattle.shadow_marks.specs.declared.planes.{LrpdPlanes.{LrpdPlanes}, FlowPlanes.{FlowPlanes}, Tested.{Tested}}
use Rattle.shadow_marks.specs.declared.planes.{Tested.TheVariants.{Lrpd, Flow}, Planes.{Planes}}
use Rattle.shadow_marks.specs.declared.planes.OperatorPlanes.{OperatorPlanes}
use Rattle.shadow_marks.specs.Standing.{IsBitPlane, StandAt, StandFor, test_of}
use Rattle.lane_planes.specs.Words.{in_some, without_reductions, FlowWords}

-- by the LRPD test: a reader that doesn't write and a writer, or a reader that writes and another writer
abbrev pub lrpd_word : LrpdPlanes → ℕ → ℕ
lrpd_word planes i =
    bit_or (bit_and (slice_index planes.read_only.items i) (slice_index planes.written.items i))
    (bit_and (slice_index planes.read_and_written.items i) (slice_index planes.written_by_two.items i))

pub record LrpdWords (many : ℕ) (planes : LrpdPlanes) (words : List ℕ) : Type 0 where
  pub count : length words ≡ many
  pub each : (i : ℕ) → i < many → slice_index words i ≡ lrpd_word planes i

-- where a test fails, whether or not elements are reduction-only
abbrev pub FailingWords : Tested → (many : ℕ) → List ℕ → Type 0
FailingWords (Lrpd planes) many words = LrpdWords many planes words
FailingWords (Flow planes) many words = FlowWords many planes.first.items planes.last.items words

-- planes fit n words
pub record LrpdFit (planes : LrpdPlanes) (many : ℕ) : Type 0 where
  pub read_only : many ≡ length planes.read_only.items
  pub written : many ≡ length planes.written.items
  pub read_and_written : many ≡ length planes.read_and_written.items
  pub written_by_two : many ≡ length planes.written_by_two.items

pub record FlowFit (planes : FlowPlanes) (many : ℕ) : Type 0 where
  pub same : length planes.first.items ≡ length planes.last.items
  pub words : many ≡ (length planes.first.items + 63) / 64

abbrev pub TestedFit : Tested → ℕ → Type 0
TestedFit (Lrpd planes) many = LrpdFit planes many
TestedFit (Flow planes) many = FlowFit planes many

-- the words of the operators' planes at an index
abbrev pub words_by : OperatorPlanes → ℕ → List ℕ
words_by planes i = slice_index planes.addh.items i ∷ slice_index planes.xor.items i ∷ slice_index planes.and.items i
    ∷ slice_index planes.or.items i ∷ slice_index planes.add.items i ∷ []

-- a word without the reduction-only elements of these planes
abbrev pub cleared_word : Planes → (word i : ℕ) → ℕ
cleared_word planes word i =
    without_reductions word (slice_index planes.plain.items i) (words_by planes.operators i)

-- the plane of conflicts: where the test fails, without the elements that are reduction-only
pub record ConflictWords (planes : Planes) (words : List ℕ) : Type 0 where
  pub failing : List ℕ
  pub fails : FailingWords planes.tested (length words) failing
  pub each : (i : ℕ) → i < length words → slice_index words i ≡ cleared_word planes (slice_index failing i) i

-- the plane of conflicts: what each word is; a bit for each element, by the marks that the planes have there, and none
-- past the last; and where the planes stand for visits, its elements are those whose visits conflict, rising
pub record IsConflictPlane (planes : Planes) (told : List ℕ) : Type 0 where
  pub words : ConflictWords planes told
  pub marks : (e : ℕ) (marks : Marks) → e < planes.elements → StandAt planes e marks
      → bit_of told e ≡ marked_conflict (test_of planes.tested) marks
  pub plane : IsBitPlane planes.elements told
  pub elements : (visits : ℕ → List Visit) → StandFor planes visits → elements_in_plane told
      ≡ filter (λ e. marked_conflict (test_of planes.tested) (marks_of (visits e))) (range_with_len 0 planes.elements)

-- the words of the operators' planes have 64 bits
abbrev pub OperatorWordsFit : Planes → (many : ℕ) → Type 0
OperatorWordsFit planes many = (i : ℕ) → i < many → in_some (words_by planes.operators i) < 2 ^ 64
