-- Lists whose operations take only values that come before them.
use Rattle.std.specs.Prelude.{◌≡◌, ℕ, ◌<◌, ◌^◌, List, Some, slice_get}
use Rattle.row_list.specs.declared.row_op.RowOp.{RowOp}
use Rattle.row_list.specs.declared.row_op.RowOp.TheVariants.{All, Number, Caller, Index, Alu, Neg, Movsx, Endian, Found}
use Rattle.row_list.specs.declared.row_op.RowOp.TheVariants.{Holds, Without, Either, Choice, Load, Store, Reduce, Fetch}

-- the numbers of an operation fit their types
abbrev pub HasWords : RowOp → Type 0
HasWords (Number n) = n < 2 ^ 64
HasWords (Found first count key) = (first < 2 ^ 32) × (count < 2 ^ 32)
HasWords op = Unit {0}

-- all that an operation takes comes before a position; its numbers fit their types
abbrev pub TakesBelow : (k : ℕ) → RowOp → Type 0
TakesBelow k All = Unit {0}
TakesBelow k (Number n) = n < 2 ^ 64
TakesBelow k (Caller size extension position) = Unit {0}
TakesBelow k Index = Unit {0}
TakesBelow k (Alu width op first second) = (first < k) × (second < k)
TakesBelow k (Neg width value) = value < k
TakesBelow k (Movsx width bits value) = value < k
TakesBelow k (Endian order bits value) = value < k
TakesBelow k (Found first count key) = (first < 2 ^ 32) × (count < 2 ^ 32) × (key < k)
TakesBelow k (Holds mask width compare first second) = (mask < k) × (first < k) × (second < k)
TakesBelow k (Without mask other) = (mask < k) × (other < k)
TakesBelow k (Either first second) = (first < k) × (second < k)
TakesBelow k (Choice mask first second) = (mask < k) × (first < k) × (second < k)
TakesBelow k (Load place extension) = (place.mask < k) × (place.address < k)
TakesBelow k (Store place value) = (place.mask < k) × (place.address < k) × (value < k)
TakesBelow k (Reduce place op value) = (place.mask < k) × (place.address < k) × (value < k)
TakesBelow k (Fetch place op value compare) =
    (place.mask < k) × (place.address < k) × (value < k) × (compare < k)

-- so of each operation, and its own position
pub record IsOrdered (list : List RowOp) : Type 0 where
  pub each : (k : ℕ) (op : RowOp) → slice_get list k ≡ Some op → TakesBelow k op
