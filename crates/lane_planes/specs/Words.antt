-- Words of bits, of which bit k of word i says something of element 64 i + k.
use Rattle.std.specs.Prelude.{◌≡◌, ℕ, ◌+◌, ◌-◌, ◌*◌, ◌^◌, min, length, ◌<◌, Bool, ◌==◌, nat_lt, List, [], ◌∷◌}
use Rattle.std.specs.{Prelude.{slice_index, bit_and, bit_or}, Int.{bit_at, bit_not, w64}}

-- the bits that are set in some of these words
abbrev pub in_some : List ℕ → ℕ
in_some [] = 0
in_some (word ∷ rest) = bit_or (in_some rest) word

-- the bits that are set in two of these words or more
abbrev pub in_two : List ℕ → ℕ
in_two [] = 0
in_two (word ∷ rest) = bit_or (in_two rest) (bit_and (in_some rest) word)

-- a word without the bits of reduction-only elements: those that no plain access has and just one operator
abbrev pub without_reductions : (word plain : ℕ) → (by : List ℕ) → ℕ
without_reductions word plain by = bit_and word (bit_or (bit_or plain (in_two by)) (bit_not w64 (in_some by)))

-- a word of n bits, each of which a test gives by its number
pub record HasBits (many : ℕ) (test : ℕ → Bool) (word : ℕ) : Type 0 where
  pub below : word < 2 ^ many
  pub each : (k : ℕ) → k < many → (bit_at word k == 1) ≡ test k

-- an element's first writer comes before its last reader, which is one more than an index, or 0 where there is none
abbrev pub stands_at : (first last : List ℕ) → ℕ → Bool
stands_at first last e = nat_lt (slice_index first e) (slice_index last e - 1)

-- the words of a plane that says of each element whether it is so, and is zero past the end
pub record FlowWords (many : ℕ) (first last words : List ℕ) : Type 0 where
  pub count : length words ≡ many
  pub each : (i : ℕ) → i < many → HasBits (min (length first - 64 * i) 64) (λ k. stands_at first last (64 * i + k))
      (slice_index words i)
