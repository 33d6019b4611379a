-- Halves of two accesses that are never the same: each begins among so many bytes, its size, from a number on.
use Rattle.std.specs.Prelude.{ℕ, ◌+◌, ◌*◌, ◌<◌, ◌≤◌}
use Rattle.value_range.specs.Spans.{Span, Contains}
use Rattle.row_facts.specs.{declared.{lines.Line.{Line}, fact.Fact.{Fact}}, Facts.{IsOnLine, IsSure}}

-- of halves of 4 bytes each one begins among so many bytes from one on
pub record IsAmong (byte size half : ℕ) : Type 0 where
  pub from : byte ≤ 4 * half
  pub before : 4 * half < byte + size

-- none begins among those of both, by their ranges
pub record AreRangesApart (first : Span) (first_size : ℕ) (second : Span) (second_size : ℕ) : Type 0 where
  pub never : (x y half : ℕ) → Contains first x → Contains second y → IsAmong x first_size half →
      IsAmong y second_size half → ⊥

-- by their lines, where the first is so many indexes after the second
pub record AreLinesApart (first : Line) (first_size : ℕ) (second : Line) (second_size distance : ℕ) : Type 0 where
  pub never : (index x y half : ℕ) → IsOnLine first (index + distance) x → IsOnLine second index y →
      IsAmong x first_size half → IsAmong y second_size half → ⊥

-- by either
pub record AreBytesApart (first : Fact) (first_size : ℕ) (second : Fact) (second_size distance : ℕ) : Type 0 where
  pub never : (index x y half : ℕ) → IsSure first (index + distance) x → IsSure second index y →
      IsAmong x first_size half → IsAmong y second_size half → ⊥
