-- Lemmas on sums over lists, and on how often a number is in one.
use Rattle.std.proofs.Common.{min, ◌≡◌, ◌⊎◌, ℕ, zero, suc, ◌+◌, ◌<◌, ◌≤◌, ◌==◌, if◌then◌else◌, List, [], ◌∷◌, ◌++◌}
use Rattle.std.proofs.Common.{length, set, slice_index_or, All, ⊎_elim, refl, sym, ap, arith}
use Rattle.std.proofs.lemmas.Bool.{cases_lt, Decides.{nat_tests}}
use mathlib.Core.Option.{some, some-injective, some-ne-none}
use lib.ListN.{get_elem?}
use Rattle.loop_board.specs.Sums.{total, times, once_below}

module _ {A : Type 0} where
  -- the sum over two lists, one after the other
  pub total-append : (f : A → ℕ) (xs ys : List A) → total f (xs ++ ys) ≡ total f xs + total f ys
  total-append f [] ys = omega arith
  total-append f (x ∷ xs) ys = let r = total-append f xs ys in omega arith

  -- the sum after a write at i
  pub total-set : (f : A → ℕ) (xs : List A) (i : ℕ) (x y : A) → get_elem? xs i ≡ some x → total f (set xs i y) + f x
      ≡ total f xs + f y
  total-set f [] i x y e = absurd (some-ne-none x (sym e))
  total-set f (z ∷ zs) zero x y e = let is : f z ≡ f x = ap f (some-injective z x e) in omega arith
  total-set f (z ∷ zs) (suc i) x y e = let r = total-set f zs i x y e in omega arith

  -- a sum of what is less element by element is less
  pub total_le : (f g : A → ℕ) (xs : List A) → ((i : ℕ) (x : A) → get_elem? xs i ≡ some x → f x ≤ g x)
      → total f xs ≤ total g xs
  total_le f g [] below = omega arith
  total_le f g (x ∷ xs) below = let here = below 0 x refl in let r = total_le f g xs (λ i y e. below (suc i) y e) in
      omega arith

  -- where the sum isn't 0, some element isn't
  pub some_in_total : (f : A → ℕ) (xs : List A) → 0 < total f xs → (k : ℕ) × (k < length xs)
      × ((d : A) → 0 < f (slice_index_or xs k d))
  some_in_total f [] more = absurd (omega arith)
  some_in_total f (x ∷ xs) more =
      ⊎_elim (λ (none_here : f x < 1). let r = some_in_total f xs (omega arith) in let below = r.1 in
      (suc r.0, (omega arith), r.2)) (λ (here : 1 ≤ f x). (0, (omega arith), (λ d. omega arith))) (cases_lt (f x) 1)

  -- one element is at most the sum
  pub one_in_total : (f : A → ℕ) (xs : List A) (k : ℕ) (d : A) → k < length xs → f (slice_index_or xs k d) ≤ total f xs
  one_in_total f [] k d below = absurd (omega arith)
  one_in_total f (x ∷ xs) zero d below = omega arith
  one_in_total f (x ∷ xs) (suc k) d below = let r = one_in_total f xs k d (omega arith) in omega arith

  -- two elements at two places are at most the sum
  pub two_in_total : (f : A → ℕ) (xs : List A) (j k : ℕ) (d : A) → j < k → k < length xs → f (slice_index_or xs j d)
      + f (slice_index_or xs k d) ≤ total f xs
  two_in_total f [] j k d before below = absurd (omega arith)
  two_in_total f (x ∷ xs) j zero d before below = absurd (omega arith)
  two_in_total f (x ∷ xs) zero (suc k) d before below = let r = one_in_total f xs k d (omega arith) in omega arith
  two_in_total f (x ∷ xs) (suc j) (suc k) d before below = let r = two_in_total f xs j k d (omega arith) (omega arith)
      in omega arith

-- how often x is in two lists, one after the other
pub times-append : (x : ℕ) (xs ys : List ℕ) → times x (xs ++ ys) ≡ times x xs + times x ys
times-append x [] ys = omega arith
times-append x (z ∷ zs) ys = let r = times-append x zs ys in omega arith

-- x is in a list that begins with x
pub times_first : (x : ℕ) (xs : List ℕ) → 0 < times x (x ∷ xs)
times_first x xs = grind (arith, nat_tests)

-- what is in a longer list is in the rest, or is the first
pub times_more : (x y : ℕ) (ys : List ℕ) → 0 < times x (y ∷ ys) → (x ≡ y) ⊎ (0 < times x ys)
times_more x y ys h = grind (arith, nat_tests)

-- what holds of each number that is in the list holds of all its elements
pub All-times : (P : ℕ → Type 0) (xs : List ℕ) → ((x : ℕ) → 0 < times x xs → P x) → All P xs
All-times P [] f k d h = absurd (omega arith)
All-times P (x ∷ xs) f zero d h = f x (times_first x xs)
All-times P (x ∷ xs) f (suc k) d h = All-times P xs (λ y at. f y (let r = at in omega arith)) k d (omega arith)

-- one more number is below n + 1, unless it is past the blocks
pub once_below-next : (x n blocks : ℕ) → n < blocks
    → once_below x (min n blocks) + (if x == n then 1 else 0) ≡ once_below x (min (n + 1) blocks)
once_below-next x n blocks below = grind (arith, nat_tests)

-- what is below n is counted once, and what is counted is below n
pub below_from_once : (x n : ℕ) → 0 < once_below x n → x < n
below_from_once x n h = grind (arith, nat_tests)

-- a number below n counts once
pub once_below-below : (x n : ℕ) → x < n → once_below x n ≡ 1
once_below-below x n h = grind (arith, nat_tests)
