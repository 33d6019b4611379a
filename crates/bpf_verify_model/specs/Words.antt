-- How eight words keep which bytes of a frame are written: bit i % 64 of word i / 64 is byte i.
use Rattle.std.specs.Prelude.{◌≡◌, ℕ, ◌+◌, ◌*◌, ◌/◌, ◌%◌, ◌^◌, ◌<◌, ◌==◌, Bool, List, length, map, get_or, slice_range}
use Rattle.std.specs.{List.{range_with_len}, Int.{bit_at}, Simd.Lanes.{mask_l}}

-- whether a byte's bit is set
abbrev pub is_byte_marked : List ℕ → ℕ → Bool
is_byte_marked words byte = bit_at (get_or words (byte / 64) 0) (byte % 64) == 1

-- a Bool for each of the 512 bytes, the lowest first
unfoldable pub marks_in_words : List ℕ → List Bool
marks_in_words words = map (is_byte_marked words) (range_with_len 0 512)

-- the words that keep these bytes, 64 in each
unfoldable pub words_of_marks : List Bool → List ℕ
words_of_marks bytes = map (λ row. mask_l (slice_range bytes (64 * row) (64 * row + 64))) (range_with_len 0 8)

-- eight words of 64 bits
pub record AreMarkWords (words : List ℕ) : Type 0 where
  pub count : length words ≡ 8
  pub small : (row : ℕ) → get_or words row 0 < 2 ^ 64
