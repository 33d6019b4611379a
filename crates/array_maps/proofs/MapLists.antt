-- How many values lists of values have together.
use Rattle.std.proofs.Common.{◌≡◌, ℕ, zero, suc, ◌+◌, ◌<◌, ◌≤◌, List, Vec, [], ◌∷◌, ◌++◌, length, get_or, refl, sym, ap}
use Rattle.std.proofs.{Common.{◌∙◌, length-append, take, arith}, lemmas.List.{append-nil, map-append}}
use Rattle.std.proofs.{lemmas.List.{Folds.{concat-append}, Sums.{sum_by-cons}}, Math.Seq.{take-suc}}
use Rattle.std.specs.{declared.alloc.Global.{Global}, List.{concat, sum}}
use Rattle.array_maps.specs.MapList.{lists, lengths}

-- a sum without its first number
sum_more : (first : ℕ) (numbers : List ℕ) → sum (first ∷ numbers) ≡ first + sum numbers
sum_more first numbers = sum_by-cons (λ (n : ℕ). n) first numbers

-- all of them
pub length_concat : (values : List (List ℕ)) → length (concat values) ≡ sum (lengths values)
length_concat [] = refl
length_concat (map ∷ values) = length-append map (concat values) ∙ ap (λ (n : ℕ). length map + n) (length_concat values)
    ∙ sym (sum_more (length map) (lengths values))

-- those of one map, and more
pub fits_in_sum : (maps : List (Vec ℕ Global)) (k : ℕ) (map : Vec ℕ Global) → k < length maps → map ≡ get_or maps k map
    → length map.items ≤ sum (lengths (lists maps))
fits_in_sum [] k map within read = absurd (omega arith)
fits_in_sum (first ∷ maps) zero map within read =
    let same : length map.items ≡ length first.items = ap (λ (m : Vec ℕ Global). length m.items) read in
    let more = sum_more (length first.items) (lengths (lists maps)) in
    omega (arith, same, more)
fits_in_sum (first ∷ maps) (suc k) map within read =
    let others = fits_in_sum maps k map (omega arith) read in
    let more = sum_more (length first.items) (lengths (lists maps)) in
    omega (arith, others, more)

-- the values of one map more
pub one_map_more : (maps : List (Vec ℕ Global)) (k : ℕ) (map : Vec ℕ Global) → k < length maps → map ≡ get_or maps k map
    → concat (lists (take (k + 1) maps)) ≡ concat (lists (take k maps)) ++ map.items
one_map_more maps k map within read =
    let next : k + 1 ≡ suc k = omega arith in
    ap (λ n. concat (lists (take n maps))) next
    ∙ ap (λ ms. concat (lists ms)) (take-suc maps k map within)
    ∙ ap (λ (m : Vec ℕ Global). concat (lists (take k maps ++ m ∷ []))) (sym read)
    ∙ ap concat (map-append (λ (values : Vec ℕ Global). values.items) (take k maps) (map ∷ []))
    ∙ concat-append (lists (take k maps)) (map.items ∷ [])
    ∙ ap (λ ws. concat (lists (take k maps)) ++ ws) (append-nil map.items)
