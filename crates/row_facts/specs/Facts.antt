-- What is known of a value in every lane.
use Rattle.std.specs.Prelude.{◌≡◌, ℕ, ◌+◌, ◌*◌, ◌%◌, ◌^◌, ◌<◌, ◌≤◌, ◌⊎◌, true, bit_or, bit_xor, List, slice_index}
use Rattle.std.specs.Prelude.{slice_get, Some}
use Rattle.value_range.specs.Spans.{Contains}
use Rattle.row_list.specs.{declared.row_op.RowOp.{RowOp}, Rows.{AreValuesOn}}
use Rattle.row_facts.specs.declared.{lines.Line.{Line}, fact.Fact.{Fact}}

-- a number is on a line, in the lane of an index
pub record IsOnLine (line : Line) (index number : ℕ) : Type 0 where
  pub same : number % 2 ^ line.bits ≡ (line.scale * index + line.offset) % 2 ^ line.bits

-- numbers on a line are multiples of a power of two
pub record IsOfMultiples (line : Line) (bits : ℕ) : Type 0 where
  pub known : bits ≤ line.bits
  pub scale : line.scale % 2 ^ bits ≡ 0
  pub offset : line.offset % 2 ^ bits ≡ 0

-- a word is in a fact's range, and on its line
pub record IsSure (fact : Fact) (index number : ℕ) : Type 0 where
  pub word : number < 2 ^ 64
  pub in_range : Contains fact.range number
  pub on_line : IsOnLine fact.line index number

-- or it is 0, where that is allowed
abbrev pub IsFact : Fact → (index number : ℕ) → Type 0
IsFact fact index number = IsSure fact index number ⊎ ((fact.or_zero ≡ true) × (number ≡ 0))

-- a lane's values are words, and fit the first facts
pub record FitFacts (facts : List Fact) (index : ℕ) (values : List ℕ) : Type 0 where
  pub words : (k : ℕ) → slice_index values k < 2 ^ 64
  pub each : (k : ℕ) (fact : Fact) → slice_get facts k ≡ Some fact → IsFact fact index (slice_index values k)

-- the values of each lane do: whatever the words are, main's frame, and the index, up to the greatest of a loop
pub record AreFacts (list : List RowOp) (facts : List Fact) : Type 0 where
  pub each : (index : ℕ) (caller : List ℕ) (words : ℕ → List ℕ) (values : List ℕ) → index ≤ 2 ^ 23 → AreValuesOn list index caller words values →
      FitFacts facts index values

-- two numbers have no bit in common: either operator on bits gives their sum
pub record IsSumOfBits (first second : ℕ) : Type 0 where
  pub by_or : bit_or first second ≡ first + second
  pub by_xor : bit_xor first second ≡ first + second
