-- What a bit of a word is, by the operators that made it.
use Rattle.std.proofs.Common.{◌≡◌, ℕ, ◌-◌, ◌^◌, ◌<◌, min, max, Bool, ◌∙◌, ap, w64, arith}
use Rattle.std.specs.{Prelude.{◌==◌, ◌&&◌, ◌||◌, not, bit_and, bit_or}, Int.{bit_at, bit_not}}
use Rattle.std.proofs.lemmas.{Bool.Decides.{nat_tests}}
use Rattle.std.proofs.lemmas.Nat.Bits.{bit_at_and, bit_at_or, bit_at_not, bit_at-lt}

-- bit k of a word
abbrev pub bit : ℕ → ℕ → Bool
bit word k = bit_at word k == 1

either_is : (x y : ℕ) → x < 2 → y < 2 → (max x y == 1) ≡ ((x == 1) || (y == 1))
either_is x y p q = grind (arith, nat_tests)

both_are : (x y : ℕ) → x < 2 → y < 2 → (min x y == 1) ≡ ((x == 1) && (y == 1))
both_are x y p q = grind (arith, nat_tests)

turned_is : (x : ℕ) → x < 2 → (1 - x == 1) ≡ not (x == 1)
turned_is x p = grind (arith, nat_tests)

pub bit-or : (a b k : ℕ) → bit (bit_or a b) k ≡ (bit a k || bit b k)
bit-or a b k = ap (λ x. x == 1) (bit_at_or a b k) ∙ either_is (bit_at a k) (bit_at b k) (bit_at-lt a k) (bit_at-lt b k)

pub bit-and : (a b k : ℕ) → bit (bit_and a b) k ≡ (bit a k && bit b k)
bit-and a b k = ap (λ x. x == 1) (bit_at_and a b k) ∙ both_are (bit_at a k) (bit_at b k) (bit_at-lt a k) (bit_at-lt b k)

pub bit-not : (a k : ℕ) → a < 2 ^ 64 → k < 64 → bit (bit_not w64 a) k ≡ not (bit a k)
bit-not a k fits small = ap (λ x. x == 1) (bit_at_not w64 a k fits small) ∙ turned_is (bit_at a k) (bit_at-lt a k)
