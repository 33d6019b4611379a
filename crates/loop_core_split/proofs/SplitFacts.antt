-- What the bounds of a split keep.
use Rattle.std.proofs.Common.{◌≡◌, ℕ, zero, suc, ◌+◌, ◌-◌, ◌<◌, ◌≤◌, List, [], ◌∷◌, length, None, Some, refl, sym, ◌∙◌}
use Rattle.std.{proofs.Common.{ap, subst, arith}, specs.Prelude.{slice_index, slice_index_or}}
use Rattle.loop_core_model.{specs.declared.faults.SplitFault.TheVariants.{Number}, proofs.EvenSplitLaws.{even_is_split}}
use Rattle.loop_core_model.specs.{Split.{last_bound, split_fault, even_bounds}, Intervals.{blocks_of}}
use Rattle.loop_core_model.proofs.SplitLaws.{faultless, rising}
use Rattle.loop_core_split.specs.Splits.{IsSplit}

pub last_is : (bounds : List ℕ) → IsSplit bounds → slice_index_or bounds (length bounds - 1) 0 ≡ last_bound 0 bounds
last_is bounds is = (faultless (last_bound 0 bounds) bounds is).last

pub in_order : (bounds : List ℕ) (block : ℕ) → IsSplit bounds → block < blocks_of bounds → slice_index_or bounds block 0
    ≤ slice_index_or bounds (block + 1) 0
in_order bounds block is h = rising 0 bounds (faultless (last_bound 0 bounds) bounds is).rises block (block + 1)
    (omega arith) (omega arith)

pub within : (bounds : List ℕ) (block : ℕ) → IsSplit bounds → block < blocks_of bounds
    → slice_index_or bounds (block + 1) 0 ≤ last_bound 0 bounds
within bounds block is h =
    let sound = faultless (last_bound 0 bounds) bounds is in
    subst (λ (n : ℕ). slice_index_or bounds (block + 1) 0 ≤ n) sound.last (rising 0 bounds sound.rises (block + 1)
    (blocks_of bounds) (omega arith) (omega arith))

-- none, or more than 64, can't be had
pub no_even_split : (n blocks : ℕ) → (1 ≤ blocks → 64 < blocks) → split_fault (even_bounds n blocks) n ≡ Some Number
no_even_split n zero h = even_is_split.none n
no_even_split n (suc blocks) h = even_is_split.more n (suc blocks) (h (omega arith))

last_is_from : (bound : ℕ) (bounds : List ℕ) → slice_index (bound ∷ bounds) (length bounds) ≡ last_bound bound bounds
last_is_from bound [] = refl
last_is_from bound (next ∷ bounds) = last_is_from next bounds

last_bound_is : (bounds : List ℕ) → 1 < length bounds → slice_index bounds (blocks_of bounds) ≡ last_bound 0 bounds
last_bound_is [] several = absurd (omega arith)
last_bound_is (bound ∷ bounds) several =
    let long : length (bound ∷ bounds) - 1 ≡ length bounds = omega arith in
    ap (slice_index (bound ∷ bounds)) long ∙ last_is_from bound bounds

-- a split of some number of iterations is one of as many as its last bound says
pub split_is : (bounds : List ℕ) (n : ℕ) → split_fault bounds n ≡ None → IsSplit bounds
split_is bounds n h = subst (λ (m : ℕ). split_fault bounds m ≡ None) (sym (faultless n bounds h).last
    ∙ last_bound_is bounds (faultless n bounds h).several) h
