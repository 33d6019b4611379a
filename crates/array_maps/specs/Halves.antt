-- The halves of a word, as accesses of 4 bytes see them.
use Rattle.std.specs.Prelude.{ℕ, ◌+◌, ◌*◌, ◌/◌, ◌%◌, ◌^◌}
use Rattle.array_maps.specs.declared.access.{Half.{Half, TheVariants.{Low, High}}, Part.{Part}}
use Rattle.array_maps.specs.declared.access.Part.TheVariants.{Whole, Half as Of}

-- the lower or the upper 32 bits of a word
unfoldable pub half_of : Half → ℕ → ℕ
half_of Low word = word % 2 ^ 32
half_of High word = word / 2 ^ 32

-- the word of two halves; of a number the lower half counts
abbrev pub of_halves : (low high : ℕ) → ℕ
of_halves low high = low % 2 ^ 32 + 2 ^ 32 * (high % 2 ^ 32)

-- a word with a half replaced
unfoldable pub with_half : Half → (word number : ℕ) → ℕ
with_half Low word number = of_halves number (word / 2 ^ 32)
with_half High word number = of_halves word number

-- two words with both halves added apart, each modulo 2 ^ 32
unfoldable pub halves_added : ℕ → ℕ → ℕ
halves_added word operand = of_halves (half_of Low word + half_of Low operand) (half_of High word + half_of High
    operand)

-- a part of a word
abbrev pub part_of : Part → ℕ → ℕ
part_of Whole word = word
part_of (Of half) word = half_of half word
