-- The masks in whose lanes a value isn't 0.
use Rattle.std.specs.Prelude.{◌≡◌, ℕ, Bool, true, false, List, slice_index, slice_get, Some}
use Rattle.row_list.specs.{declared.row_op.RowOp.{RowOp}, Rows.{AreValuesOn, is_in}}
use Rattle.row_facts.specs.Narrower.{IsNeverIn}

-- a value isn't 0 in a lane that is in a mask
abbrev pub IsNonzeroIn : List RowOp → (mask value : ℕ) → Type 0
IsNonzeroIn list mask value = IsNeverIn list mask (λ values. slice_index values value ≡ 0)

-- so of each mask that is marked
pub record AreNonzeroIn (list : List RowOp) (masks : List Bool) (value : ℕ) : Type 0 where
  pub each : (mask : ℕ) → slice_get masks mask ≡ Some true → IsNonzeroIn list mask value

-- nor in a lane that is in one mask and isn't in another
pub record IsNullTest (list : List RowOp) (test within value : ℕ) : Type 0 where
  pub never : (index : ℕ) (caller : List ℕ) (words : ℕ → List ℕ) (values : List ℕ) → AreValuesOn list index caller words values →
      is_in values within ≡ true → is_in values test ≡ false → slice_index values value ≡ 0 → ⊥
