-- Conflicting elements as a plane: a word for each 64 elements, of which each bit says whether an element is one.
use Rattle.std.specs.Prelude.{◌≡◌, ℕ, ◌+◌, ◌*◌, ◌/◌, ◌%◌, ◌≤◌, ◌<◌, Bool, false, ◌==◌, if◌then◌else◌, List, [], ◌∷◌}
use Rattle.std.specs.{Prelude.{length, slice_index_or, count_ones, Option, Some, None}, List.{filter, range_with_len}}
use Rattle.std.specs.Int.{w64, bit_at, trailing_zeros}
use Rattle.array_maps.specs.MapList.{AreWords}
use Rattle.loop_core_model.specs.{declared.verdict.Verdict.{Verdict, TheVariants.{Parallel, Conflict}}, Report.{judged}}

-- the bit of an element
abbrev pub bit_of : List ℕ → ℕ → Bool
bit_of words e = bit_at (slice_index_or words (e / 64) 0) (e % 64) == 1

-- the elements whose bits are set, rising
abbrev pub elements_in_plane : List ℕ → List ℕ
elements_in_plane words = filter (bit_of words) (range_with_len 0 (64 * length words))

-- the least of some elements that rise
abbrev pub least_element_in : List ℕ → Option ℕ
least_element_in [] = None
least_element_in (least ∷ others) = Some least

-- the verdict by how many elements conflict and which is the least
abbrev pub judged_by : (count : ℕ) → (least : Option ℕ) → Verdict
judged_by count None = Parallel
judged_by count (Some least) = Conflict count least

-- how many bits of words are set
abbrev pub set_bits : List ℕ → ℕ
set_bits [] = 0
set_bits (word ∷ words) = count_ones word + set_bits words

-- the least bit that is set, of words of which the first is word k: 64 * k and the trailing zeros of the first that
-- isn't 0
abbrev pub least_bit : (k : ℕ) → List ℕ → Option ℕ
least_bit k [] = None
least_bit k (word ∷ words) = if word == 0 then least_bit (k + 1) words else Some (64 * k + trailing_zeros w64 word)

-- the verdict of a plane of conflicts: how many bits are set, and which is the least
abbrev pub plane_verdict : List ℕ → Verdict
plane_verdict words = judged_by (set_bits words) (least_bit 0 words)

-- a plane whose bits say what a test says of n elements, and are zero past the end, has just the elements that pass
abbrev pub PlaneHasElements : Type 0
PlaneHasElements = (words : List ℕ) (test : ℕ → Bool) (elements : ℕ) → elements ≤ 64 * length words →
    ((e : ℕ) → e < elements → bit_of words e ≡ test e) → ((e : ℕ) → elements ≤ e → e < 64 * length words
    → bit_of words e ≡ false) →
    elements_in_plane words ≡ filter test (range_with_len 0 elements)

-- a plane has as many elements as bits are set in its words, the least of them is the least bit, and its
-- verdict is that on them
pub record PlaneJudges : Type 0 where
  pub count : (words : List ℕ) → AreWords words → length (elements_in_plane words) ≡ set_bits words
  pub least : (words : List ℕ) → AreWords words → least_element_in (elements_in_plane words) ≡ least_bit 0 words
  pub verdict : (words : List ℕ) → AreWords words → plane_verdict words ≡ judged (elements_in_plane words)
