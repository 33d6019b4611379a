-- Bounds without a fault are a partition.
use Rattle.std.proofs.Common.{◌≡◌, ℕ, zero, suc, ◌+◌, ◌<◌, ◌≤◌, Bool, true, false, inl, inr, List, [], ◌∷◌, length}
use Rattle.std.proofs.Common.{Option, Some, None, refl, sym, ◌∙◌, ap, subst, arith}
use Rattle.std.specs.Prelude.{not, ◌||◌, ◌==◌, nat_lt, slice_index, if◌then◌else◌}
use Rattle.std.proofs.lemmas.Bool.{ltb-false, eqb-true, not-false, cases_lt, or_parts}
use Rattle.loop_core_model.specs.{Intervals.{blocks_of}}
use Rattle.loop_core_model.specs.Split.{falls, last_bound, ends_amiss, split_fault}
use Rattle.loop_core_model.specs.SplitLaw.{HasIndex, Partition, SplitsPartition}

-- what it is to have no fault
pub record Faultless (n : ℕ) (bounds : List ℕ) : Type 0 where
  pub rises : falls 0 bounds ≡ false
  pub several : 1 < length bounds
  pub first : slice_index bounds 0 ≡ 0
  pub last : slice_index bounds (blocks_of bounds) ≡ n

last_is : (bound : ℕ) (bounds : List ℕ) → last_bound bound bounds ≡ slice_index (bound ∷ bounds) (length bounds)
last_is bound [] = refl
last_is bound (next ∷ bounds) = last_is next bounds

met_ends : (n : ℕ) (bounds : List ℕ) → 1 < length bounds → falls 0 bounds ≡ false → ends_amiss bounds n ≡ false
    → Faultless n bounds
met_ends n [] several rises ends = absurd (omega arith)
met_ends n (first ∷ bounds) several rises ends =
    let parts = or_parts (not (first == 0)) (not (last_bound first bounds == n)) ends in
    let count : blocks_of (first ∷ bounds) ≡ length bounds = omega arith in record {
      rises = rises;
      several = several;
      first = eqb-true first 0 (not-false (first == 0) parts.0);
      last = ap (slice_index (first ∷ bounds)) count ∙ (sym (last_is first bounds) ∙ eqb-true (last_bound first bounds)
          n (not-false (last_bound first bounds == n) parts.1));
    }

pub none_if : {A : Type 0} (b : Bool) (x : A) (o : Option A) → (if b then Some x else o) ≡ None → (b ≡ false)
    × (o ≡ None)
none_if true x o h = absurd (cc)
none_if false x o h = (refl, h)

pub faultless : (n : ℕ) (bounds : List ℕ) → split_fault bounds n ≡ None → Faultless n bounds
faultless n bounds h =
    let falling = none_if (falls 0 bounds) _ _ h in
    let number = none_if (nat_lt (length bounds) 2 || nat_lt 65 (length bounds)) _ _ falling.1 in
    let several = ltb-false (length bounds) 2 (or_parts (nat_lt (length bounds) 2) _ number.0).0 in
    met_ends n bounds (omega arith) falling.0 (none_if (ends_amiss bounds n) _ _ number.1).0

-- no bound is below one before it
falls_first : (before : ℕ) (bounds : List ℕ) → falls before bounds ≡ false → (k : ℕ) → k < length bounds
    → before ≤ slice_index bounds k
falls_first before [] rises k h = absurd (omega arith)
falls_first before (bound ∷ bounds) rises zero h =
    ltb-false bound before (or_parts (nat_lt bound before) (falls bound bounds) rises).0
falls_first before (bound ∷ bounds) rises (suc k) h =
    let parts = or_parts (nat_lt bound before) (falls bound bounds) rises in
    let here = ltb-false bound before parts.0 in
    let later = falls_first bound bounds parts.1 k (omega arith) in
    omega arith

pub rising : (before : ℕ) (bounds : List ℕ) → falls before bounds ≡ false → (j k : ℕ) → j ≤ k → k < length bounds
    → slice_index bounds j ≤ slice_index bounds k
rising before [] rises j k below h = absurd (omega arith)
rising before (bound ∷ bounds) rises zero zero below h = omega arith
rising before (bound ∷ bounds) rises zero (suc k) below h =
    falls_first bound bounds (or_parts (nat_lt bound before) (falls bound bounds) rises).1 k (omega arith)
rising before (bound ∷ bounds) rises (suc j) zero below h = absurd (omega arith)
rising before (bound ∷ bounds) rises (suc j) (suc k) below h =
    rising bound bounds (or_parts (nat_lt bound before) (falls bound bounds) rises).1 j k (omega arith) (omega arith)

-- an index between the first bound and the last lies between two neighbours
between : (bound : ℕ) (bounds : List ℕ) (index : ℕ) → bound ≤ index → index < slice_index (bound ∷ bounds)
    (length bounds) → (block : ℕ) × HasIndex (bound ∷ bounds) block index
between bound [] index low high = absurd (omega arith)
between bound (next ∷ bounds) index low high = elim (cases_lt index next) [
  | inl here ↦ (0, record { block_within = omega arith; started = low; not_ended = here })
  | inr later ↦
      let b = between next bounds index later high in
      let same : suc (b.0 + 1) ≡ suc b.0 + 1 = omega arith in (
        suc b.0,
        record {
          block_within = (let h = b.1.block_within in omega arith);
          started = b.1.started;
          not_ended = subst (λ (k : ℕ). index < slice_index (bound ∷ next ∷ bounds) k) same b.1.not_ended;
        },
      )
]

each_has : (n : ℕ) (bounds : List ℕ) → Faultless n bounds → (index : ℕ) → index < n
    → (block : ℕ) × HasIndex bounds block index
each_has n [] sound index h = absurd (let several = sound.several in omega arith)
each_has n (bound ∷ bounds) sound index h =
    let begins : bound ≡ 0 = sound.first in
    let count : blocks_of (bound ∷ bounds) ≡ length bounds = omega arith in
    let ends : slice_index (bound ∷ bounds) (length bounds) ≡ n =
    sym (ap (slice_index (bound ∷ bounds)) count) ∙ sound.last in
    between bound bounds index (omega arith) (omega arith)

module _ (n : ℕ) (bounds : List ℕ) (sound : Faultless n bounds) where
  apart : (a b index : ℕ) → HasIndex bounds a index → HasIndex bounds b index → a < b → ⊥
  apart a b index x y below =
      let up = rising 0 bounds sound.rises (a + 1) b (omega arith) (let w = y.block_within in omega arith) in
      let before = x.not_ended in
      let behind = y.started in
      omega arith

  inside_has : (block index : ℕ) → HasIndex bounds block index → index < n
  inside_has block index has =
      let up = rising 0 bounds sound.rises (block + 1) (blocks_of bounds) (let w = has.block_within in omega arith)
      (let s = sound.several in omega arith) in
      let before = has.not_ended in
      let last = sound.last in
      omega arith

  pub partition : Partition n bounds
  partition = record {
    each = each_has n bounds sound;
    once = λ block other index one two.
        (let no_less = apart block other index one two in let no_more = apart other block index two one in omega arith);
    inside = inside_has;
  }

pub splits_partition : SplitsPartition
splits_partition n bounds h = partition n bounds (faultless n bounds h)
