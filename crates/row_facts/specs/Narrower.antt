-- Masks of a list that are in others, and what never holds in their lanes.
use Rattle.std.specs.Prelude.{◌≡◌, ℕ, ◌<◌, true, List, slice_index, slice_get, Some}
use Rattle.row_list.specs.{declared.row_op.RowOp.{RowOp}, Rows.{AreValuesOn, IsRowValue, is_in}}

-- the first k of some numbers are values of a list in a lane, where the access of each position finds these words
abbrev pub AreMadeOn : (list : List RowOp) → (k index : ℕ) → (caller : List ℕ) → (words : ℕ → List ℕ)
    → (values : List ℕ) → Type 0
AreMadeOn list k index caller words values = (j : ℕ) (op : RowOp) → j < k → slice_get list j ≡ Some op
    → IsRowValue op index caller values (words j) (slice_index values j)

-- so where all find the same words
abbrev pub AreMade : (list : List RowOp) → (k index : ℕ) → (caller words values : List ℕ) → Type 0
AreMade list k index caller words values = AreMadeOn list k index caller (λ j. words) values

-- a lane of a mask is one of another, whatever the values of the list are
pub record IsNarrower (list : List RowOp) (mask other : ℕ) : Type 0 where
  pub each : (k index : ℕ) (caller : List ℕ) (words : ℕ → List ℕ) (values : List ℕ) → mask < k → other < k →
      AreMadeOn list k index caller words values → is_in values mask ≡ true → is_in values other ≡ true

-- something never holds of the values of a lane that is in a mask
pub record IsNeverIn (list : List RowOp) (mask : ℕ) (fact : List ℕ → Type 0) : Type 0 where
  pub never : (index : ℕ) (caller : List ℕ) (words : ℕ → List ℕ) (values : List ℕ) →
      AreValuesOn list index caller words values → is_in values mask ≡ true → fact values → ⊥

-- no lane is in both of two masks
abbrev pub AreMasksApart : List RowOp → (one other : ℕ) → Type 0
AreMasksApart list one other = IsNeverIn list one (λ values. is_in values other ≡ true)
