-- An even split is a split.
use Rattle.std.proofs.Common.{◌≡◌, ℕ, zero, suc, ◌+◌, ◌*◌, ◌≤◌, ◌<◌, true, false, not, ◌||◌, map, length, Some}
use Rattle.std.{proofs.Common.{None, refl, ◌∙◌, ap, arith}, specs.Prelude.{◌==◌, ◌/◌, nat_lt}}
use Rattle.std.{specs.List.{range_with_len}, proofs.lemmas.{Bool.{le-ltb, Decides.{nat_tests}}, Nat.{le-div}}}
use Rattle.std.proofs.Math.Nat.{mul-div_cancel_left, zero-mul, zero-div, div-mul-le_self, add-mul}
use Rattle.std.proofs.lemmas.List.FromFn.{length-map-range_with_len}
use Rattle.loop_core_model.specs.declared.faults.SplitFault.TheVariants.{Number}
use Rattle.loop_core_model.specs.Split.{falls, last_bound, ends_amiss, split_fault, even_bounds, EvenIsSplit}

-- what rises never falls
never_falls : (f : ℕ → ℕ) → ((k : ℕ) → f k ≤ f (k + 1)) → (count k before : ℕ) → before ≤ f k
    → falls before (map f (range_with_len k count)) ≡ false
never_falls f rises zero k before h = refl
never_falls f rises (suc count) k before h =
    rw (le-ltb (f k) before h) (never_falls f rises count (k + 1) (f k) (rises k))

last_is : (f : ℕ → ℕ) (count k before : ℕ) → last_bound before (map f (range_with_len k (suc count))) ≡ f (k + count)
last_is f zero k before = let here : k ≡ k + 0 = omega arith in ap f here
last_is f (suc count) k before = let there : k + 1 + count ≡ k + suc count = omega arith in
    last_is f count (k + 1) (f k) ∙ ap f there

quotient_rises : (k n blocks : ℕ) → 1 ≤ blocks → k * n / blocks ≤ (k + 1) * n / blocks
quotient_rises k n blocks h =
    let less : k * n / blocks * blocks ≤ k * n = div-mul-le_self (k * n) blocks in
    let more : (k + 1) * n ≡ k * n + 1 * n = add-mul k 1 n in
    le-div (k * n / blocks) ((k + 1) * n) blocks h (rw more (omega arith))

both_meet : (first last n : ℕ) → first ≡ 0 → last ≡ n → (not (first == 0) || not (last == n)) ≡ false
both_meet first last n a b = grind (arith, nat_tests)

ends_meet : (n blocks : ℕ) → 1 ≤ blocks → ends_amiss (map (λ k. k * n / blocks) (range_with_len 0 (suc blocks))) n
    ≡ false
ends_meet n zero h = absurd (omega arith)
ends_meet n (suc blocks) h =
    let f : ℕ → ℕ = λ k. k * n / suc blocks in
    let begins : f 0 ≡ 0 = ap (λ m. m / suc blocks) (zero-mul n) ∙ zero-div (suc blocks) in
    let one_on : 1 + blocks ≡ suc blocks = omega arith in
    let ends : last_bound (f 0) (map f (range_with_len 1 (suc blocks))) ≡ n = last_is f blocks 1 (f 0) ∙ ap f one_on
    ∙ mul-div_cancel_left n h in
    both_meet (f 0) (last_bound (f 0) (map f (range_with_len 1 (suc blocks)))) n begins ends

-- the bounds of an even split into some blocks don't fall, and are one more
even_rises : (n blocks : ℕ) → 1 ≤ blocks → falls 0 (even_bounds n blocks) ≡ false
even_rises n blocks some = never_falls (λ k. k * n / blocks) (λ k. quotient_rises k n blocks some) (blocks + 1) 0 0
    (omega arith)

even_long : (n blocks : ℕ) → length (even_bounds n blocks) ≡ blocks + 1
even_long n blocks = length-map-range_with_len (λ k. k * n / blocks) 0 (blocks + 1)

even_split : (n blocks : ℕ) → 1 ≤ blocks → blocks ≤ 64 → split_fault (even_bounds n blocks) n ≡ None
even_split n blocks some small =
    let long = even_long n blocks in
    let number : (nat_lt (length (even_bounds n blocks)) 2 || nat_lt 65 (length (even_bounds n blocks))) ≡ false =
    grind (arith, nat_tests) in
    let count : blocks + 1 ≡ suc blocks = omega arith in
    let ends : ends_amiss (even_bounds n blocks) n ≡ false = rw count (ends_meet n blocks some) in
    rw (even_rises n blocks some, number, ends) refl

too_many : (n blocks : ℕ) → 64 < blocks → split_fault (even_bounds n blocks) n ≡ Some Number
too_many n blocks many =
    let long = even_long n blocks in
    let number : (nat_lt (length (even_bounds n blocks)) 2 || nat_lt 65 (length (even_bounds n blocks))) ≡ true =
    grind (arith, nat_tests) in
    rw (even_rises n blocks (omega arith), number) refl

none : (n : ℕ) → split_fault (even_bounds n 0) n ≡ Some Number
none n = let rises : (nat_lt (0 * n / 0) 0 || false) ≡ false = grind (arith, nat_tests) in rw rises refl

pub even_is_split : EvenIsSplit
even_is_split = record { split = even_split; none = none; more = too_many }
