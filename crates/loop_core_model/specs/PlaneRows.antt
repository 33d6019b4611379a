-- Worked planes: the marks of loops that are run as one block, as planes of words, and the verdicts that planes of
-- conflicts tell. Each is worked out by hand.
use Rattle.std.specs.Prelude.{◌≡◌, ℕ, zero, suc, ◌+◌, ◌*◌, Bool, if◌then◌else◌, List, [], ◌∷◌, map, take, drop}
use Rattle.std.specs.Prelude.{replicate, Option, Some, None}
use Rattle.array_maps.specs.declared.access.Op.TheVariants.{Add, Or, And, Xor, AddH}
use Rattle.bpf_step_model.specs.{Run.{BoundedResult, Ended, mapped}, Iteration.{Iterated}, LoopRows.{increment}}
use Rattle.loop_core_model.specs.declared.{loop_test.Test.TheVariants.{Lrpd, Flow}, verdict.Verdict.{Verdict}}
use Rattle.loop_core_model.specs.declared.verdict.Verdict.TheVariants.{Parallel, Conflict}
use Rattle.loop_core_model.specs.{Marks.{Marks, marked_conflict}, Planes.{set_bits, least_bit, plane_verdict}}
use Rattle.loop_core_model.specs.BlockRows.{block_of, of_each, right, left, mixed, writers}

-- the word of some bits, the lowest first
abbrev pub word_of_bits : List Bool → ℕ
word_of_bits [] = 0
word_of_bits (bit ∷ bits) = (if bit then 1 else 0) + 2 * word_of_bits bits

-- n words of some bits, 64 in each
abbrev pub plane_of : ℕ → List Bool → List ℕ
plane_of zero bits = []
plane_of (suc words) bits = word_of_bits (take 64 bits) ∷ plane_of words (drop 64 bits)

-- the planes of marks, and of the conflicts by either test
pub record WorkedPlanes : Type 0 where
  pub w : List ℕ
  pub m : List ℕ
  pub r : List ℕ
  pub np : List ℕ
  pub nx : List ℕ
  pub add : List ℕ
  pub or : List ℕ
  pub and : List ℕ
  pub xor : List ℕ
  pub addh : List ℕ
  pub lrpd : List ℕ
  pub flow : List ℕ

-- the planes, of n words, of the marks of each element
abbrev pub planes_of : ℕ → List Marks → WorkedPlanes
planes_of words marks = record {
  w = plane_of words (map (λ (m : Marks). m.written) marks);
  m = plane_of words (map (λ (m : Marks). m.written_by_two) marks);
  r = plane_of words (map (λ (m : Marks). m.read_only) marks);
  np = plane_of words (map (λ (m : Marks). m.read_and_written) marks);
  nx = plane_of words (map (λ (m : Marks). m.plain) marks);
  add = plane_of words (map (λ (m : Marks). m.by Add) marks);
  or = plane_of words (map (λ (m : Marks). m.by Or) marks);
  and = plane_of words (map (λ (m : Marks). m.by And) marks);
  xor = plane_of words (map (λ (m : Marks). m.by Xor) marks);
  addh = plane_of words (map (λ (m : Marks). m.by AddH) marks);
  lrpd = plane_of words (map (marked_conflict Lrpd) marks);
  flow = plane_of words (map (marked_conflict Flow) marks);
}

-- a block from index 0 on over n elements has these planes, of n words
abbrev pub HasPlanes : (elements words : ℕ) → BoundedResult (List Iterated) → WorkedPlanes → Type 0
HasPlanes elements words ran planes = mapped (planes_of words) (of_each elements 0 (λ marks. marks) ran) ≡ Ended planes

-- no element has any mark: n words 0
abbrev pub unmarked : ℕ → WorkedPlanes
unmarked words =
    let none : List ℕ = replicate words 0 in
    record {
      w = none;
      m = none;
      r = none;
      np = none;
      nx = none;
      add = none;
      or = none;
      and = none;
      xor = none;
      addh = none;
      lrpd = none;
      flow = none;
    }

-- 65 iterations, each of which adds 1 to its own element
abbrev pub increments : BoundedResult (List Iterated)
increments = block_of 65 65 increment (replicate 65 0) 0 65

-- all 65 elements
abbrev pub all : List ℕ
all = 18446744073709551615 ∷ 1 ∷ []

-- one element
abbrev pub element_zero : List ℕ
element_zero = 1 ∷ []

-- each element gets the one before it: 1 to 4 are written, 0 to 3 read, 1 to 3 both, by different iterations; or the
-- one after it, where by the flow test none conflicts; 65 elements that are read and then written; adds and ors to one
-- element; and plain stores to one, which each iteration reads after its own
pub record MarkRows : Type 0 where
  pub right : HasPlanes 5 1 right (record (unmarked 1) {
    w = 30 ∷ [];
    r = 15 ∷ [];
    nx = 31 ∷ [];
    lrpd = 14 ∷ [];
    flow = 14 ∷ [];
  })
  pub left : HasPlanes 5 1 left (record (unmarked 1) { w = 15 ∷ []; r = 30 ∷ []; nx = 31 ∷ []; lrpd = 14 ∷ [] })
  pub increments : HasPlanes 65 2 increments (record (unmarked 2) { w = all; np = all; nx = all })
  pub mixed : HasPlanes 1 1 mixed (record (unmarked 1) {
    w = element_zero;
    m = element_zero;
    np = element_zero;
    add = element_zero;
    or = element_zero;
    lrpd = element_zero;
    flow = element_zero;
  })
  pub writers : HasPlanes 1 1 writers (record (unmarked 1) { w = element_zero; m = element_zero; nx = element_zero })

-- a plane has n bits that are set, of which this is the least, and gives this verdict
pub record PlaneTells (plane : List ℕ) (many : ℕ) (first : Option ℕ) (verdict : Verdict) : Type 0 where
  pub count : set_bits plane ≡ many
  pub least : least_bit 0 plane ≡ first
  pub told : plane_verdict plane ≡ verdict

-- conflicts in one word, in the second of two, and none
pub record ConflictPlaneRows : Type 0 where
  pub three : PlaneTells (14 ∷ []) 3 (Some 1) (Conflict 3 1)
  pub second_word : PlaneTells (0 ∷ 1 ∷ []) 1 (Some 64) (Conflict 1 64)
  pub both_words : PlaneTells (8 ∷ 3 ∷ []) 3 (Some 3) (Conflict 3 3)
  pub none : PlaneTells (0 ∷ 0 ∷ []) 0 None Parallel

-- all of them
pub record PlaneRows : Type 0 where
  pub marks : MarkRows
  pub conflicts : ConflictPlaneRows
