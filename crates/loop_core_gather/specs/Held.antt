-- What is kept of gathered blocks, and what a pass leaves by it.
use Rattle.std.specs.Prelude.{◌≡◌, ℕ, ◌/◌, ◌<◌, ◌≤◌, Bool, false, not, ◌&&◌, ◌==◌, List, map, length, slice_get}
use Rattle.std.specs.{Prelude.{slice_index, Some, None}, Int.{bit_at}, List.{All, count_by, filter_map, range_with_len}}
use Rattle.array_maps.specs.Accesses.{operators}
use Rattle.loop_core_model.specs.{declared.{loop_test.Test.{Test}, verdict.Verdict.{Verdict}}, Actions.{joined}}
use Rattle.loop_core_model.specs.{Marks.{Visit}, Planes.{bit_of}, Kept.{Kept, committed_of_kept}}
use Rattle.shadow_marks.specs.declared.planes.Planes.{Planes}
use Rattle.shadow_marks.specs.Standing.{ArePlanes, StandFor, words_for, plane_by, test_of}
use Rattle.private_copy.specs.Reductions.{combination}
use Rattle.lane_planes.specs.Merged.{StandForSome}
use Rattle.loop_core_block.specs.Blocks.{BlockOf}

-- the blocks at these places, in order
abbrev pub chosen : List ℕ → List BlockOf → List BlockOf
chosen places blocks = filter_map (λ place. slice_get blocks place) places

-- the planes of a block represent some iterations, for n elements and this test
pub record HavePlanes (elements : ℕ) (test : Test) (b : BlockOf) : Type 0 where
  pub stand : StandForSome b.planes
  pub count : b.planes.elements ≡ elements
  pub test_is : test_of b.planes.tested ≡ test

-- the copies are those of other blocks, place by place
abbrev pub HaveCopiesOf : (old new : List BlockOf) → Type 0
HaveCopiesOf old new = map (λ b. b.copy) new ≡ map (λ b. b.copy) old

-- at an element the visits of each block, one block after the other
abbrev pub visits_at : (BlockOf → ℕ → List Visit) → List BlockOf → ℕ → List Visit
visits_at each blocks e = joined (map (λ b. each b e) blocks)

-- the planes of the blocks at these places in one, for n elements and this test: they represent the visits of each
-- of those blocks, one block after the other, whatever visits the blocks' own planes represent
pub record AreInOne (elements : ℕ) (test : Test) (blocks : List BlockOf) (places : List ℕ) (planes : Planes) : Type 0
  where
    pub stand : StandForSome planes
    pub count : planes.elements ≡ elements
    pub test_is : test_of planes.tested ≡ test
    pub visits : (each : BlockOf → ℕ → List Visit) → All (λ b. StandFor b.planes (each b)) blocks
        → StandFor planes (visits_at each (chosen places blocks))

-- by planes an element is reduction-only: no plain access was made of it, and it was reduced by one operator
abbrev pub is_reduction : Planes → ℕ → Bool
is_reduction planes e = not (bit_of planes.plain.items e) && (count_by (λ op. bit_of (plane_by planes.operators op) e)
    operators == 1)

-- what is kept of a block at an element
abbrev pub kept_at : ℕ → BlockOf → Kept
kept_at e b = record { last_value = b.copy.last e; partial = combination (b.copy.reduction e) }

-- what a pass leaves at an element
abbrev pub left_at : Planes → List BlockOf → List ℕ → ℕ → ℕ
left_at planes blocks start e = committed_of_kept (is_reduction planes e) (map (kept_at e) blocks) (slice_index start e)

-- the words that a pass leaves
abbrev pub left_words : Planes → List BlockOf → List ℕ → List ℕ
left_words planes blocks start = map (left_at planes blocks start) (range_with_len 0 (length start))

-- nothing is kept of a block at an element
pub record IsUntouchedElement (e : ℕ) (b : BlockOf) : Type 0 where
  pub last_value : b.copy.last e ≡ None
  pub partial : combination (b.copy.reduction e) ≡ None

-- a word has a bit for each of the blocks at these places; of a block whose bit isn't set nothing is kept at an element
abbrev pub MarksTouched : (word e : ℕ) → List BlockOf → List ℕ → Type 0
MarksTouched word e blocks places = (i : ℕ) (b : BlockOf) → i < length places
    → slice_get blocks (slice_index places i) ≡ Some b →
    (bit_at word i == 1) ≡ false → IsUntouchedElement e b

-- blocks, the places of those that count, merged planes, and for each page which of those blocks touched it, all for so
-- many elements
pub record AreHeld (elements : ℕ) (blocks : List BlockOf) (places : List ℕ) (planes : Planes) (touched : List ℕ) : Type
    0 where
  pub few : elements ≤ 65536
  pub within : All (λ place. place < length blocks) places
  pub starts : All (λ b. length b.copy.start ≡ elements) blocks
  pub whole : ArePlanes planes
  pub stand : StandForSome planes
  pub count : planes.elements ≡ elements
  pub pages : length touched ≡ words_for elements
  pub untouched : (e : ℕ) → e < elements → MarksTouched (slice_index touched (e / 64)) e blocks places

-- gathered blocks as contracts see them: the loop's verdict, and what it answers and leaves after a pass from these
-- start words
pub record GatheredOf : Type 0 where
  pub verdict : Verdict
  pub answer : ℕ
  pub words : List ℕ
  pub start : List ℕ
