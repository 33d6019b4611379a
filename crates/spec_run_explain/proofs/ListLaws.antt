-- Listing the elements of a plane.
use Rattle.std.proofs.Common.{◌≡◌, ◌≢◌, ℕ, ◌+◌, ◌-◌, ◌*◌, ◌/◌, ◌≤◌, Bool, true, false, List, [], ◌∷◌, ◌++◌, length}
use Rattle.std.{proofs.Common.{take, None, refl, sym, ap, ◌∙◌, arith}, specs.Prelude.{cond}}
use Rattle.std.{specs.List.{filter, range_with_len}, proofs.lemmas.List.Elements.{filter-append}}
use Rattle.std.proofs.lemmas.List.{take_all, take-append-le, append-nil, length-append}
use Rattle.loop_core_model.specs.{Intervals.{start_of, end_of}, Split.{split_fault, even_bounds}}
use Rattle.loop_core_model.proofs.{EvenSplitLaws.{even_is_split}, PlaneLaws.{range-append}}

-- one block is a split
pub one_block : (n : ℕ) → split_fault (even_bounds n 1) n ≡ None
one_block n = even_is_split.split n 1 (omega arith) (omega arith)

-- numbers that pass, up to another
parted : (p : ℕ → Bool) (few all : ℕ) → few ≤ all →
    filter p (range_with_len 0 all) ≡ filter p (range_with_len 0 few) ++ filter p (range_with_len (0 + few) (all - few))
parted p few all within =
    let parts : all ≡ few + (all - few) = omega (arith, within) in
    ap (λ (n : ℕ). filter p (range_with_len 0 n)) parts
    ∙ ap (filter p) (range-append 0 few (all - few))
    ∙ filter-append p (range_with_len 0 few) (range_with_len (0 + few) (all - few))

-- the first so many of them are there
pub enough : (p : ℕ → Bool) (few all most : ℕ) (xs : List ℕ) → xs ≡ filter p (range_with_len 0 few) → length xs ≡ most
    → few ≤ all →
    xs ≡ take most (filter p (range_with_len 0 all))
enough p few all most xs listed long within =
    let rest = filter p (range_with_len (0 + few) (all - few)) in
    let low : length xs ≤ most = omega (arith, long) in
    let high : most ≤ length xs = omega (arith, long) in
    sym (take_all most xs low)
    ∙ sym (take-append-le most xs rest high)
    ∙ ap (λ (ys : List ℕ). take most (ys ++ rest)) listed
    ∙ ap (take most) (sym (parted p few all within))

-- or all are
pub all_listed : (p : ℕ → Bool) (e all most : ℕ) (xs : List ℕ) → xs ≡ filter p (range_with_len 0 e) → length xs ≤ most
    → e ≡ all →
    xs ≡ take most (filter p (range_with_len 0 all))
all_listed p e all most xs listed few same =
    sym (take_all most xs few) ∙ ap (take most) (listed ∙ ap (λ (n : ℕ). filter p (range_with_len 0 n)) same)

one : (p : ℕ → Bool) (e : ℕ) (b : Bool) → p e ≡ b → filter p (range_with_len (0 + e) 1) ≡ cond b (e ∷ []) []
one p e b is =
    let from_zero : 0 + e ≡ e = omega arith in
    ap (λ (n : ℕ). filter p (range_with_len n 1)) from_zero ∙ ap (λ (c : Bool). cond c (e ∷ []) []) is

next : (p : ℕ → Bool) (e : ℕ) (b : Bool) → p e ≡ b → filter p (range_with_len 0 (e + 1)) ≡ filter p (range_with_len 0 e)
    ++ cond b (e ∷ []) []
next p e b is =
    ap (filter p) (range-append 0 e 1) ∙ filter-append p (range_with_len 0 e) (range_with_len (0 + e) 1)
    ∙ ap (λ (rest : List ℕ). filter p (range_with_len 0 e) ++ rest) (one p e b is)

-- one more
pub listed_more : (p : ℕ → Bool) (e after : ℕ) (xs ys : List ℕ) → after ≡ e + 1 → xs ≡ filter p (range_with_len 0 e)
    → ys ≡ xs ++ cond (p e) (e ∷ []) [] →
    ys ≡ filter p (range_with_len 0 after)
listed_more p e after xs ys is listed added =
    added ∙ ap (λ (zs : List ℕ). zs ++ cond (p e) (e ∷ []) []) listed ∙ sym (next p e (p e) refl)
    ∙ ap (λ (n : ℕ). filter p (range_with_len 0 n)) (sym is)

pub few_more : (b : Bool) (e most : ℕ) (xs ys : List ℕ) → ys ≡ xs ++ cond b (e ∷ []) [] → length xs ≤ most
    → length xs ≢ most → length ys ≤ most
few_more true e most xs ys added few other =
    let long : length ys ≡ length xs + 1 = ap length added ∙ length-append xs (e ∷ []) in
    omega (arith, long, few, other)
few_more false e most xs ys added few other =
    let long : length ys ≡ length xs = ap length (added ∙ append-nil xs) in
    omega (arith, long, few)

-- a split into one block has all indices
pub one_starts : (n : ℕ) → start_of (even_bounds n 1) 0 ≡ 0
one_starts n = let e : 0 * n / 1 ≡ 0 = omega arith in e

pub one_ends : (n : ℕ) → end_of (even_bounds n 1) 0 ≡ n
one_ends n = let e : 1 * n / 1 ≡ n = omega arith in e
