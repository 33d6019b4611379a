-- Where the words of a map lie.
use Rattle.std.proofs.Common.{◌≡◌, ◌+◌, ◌-◌, ◌<◌, ◌≤◌, ℕ, zero, suc, true, List, [], ◌∷◌, length, drop, slice_index}
use Rattle.std.{proofs.{Common.{slice_range, arith}, lemmas.Bool.{eqb-true}}, specs.List.{sum}}
use Rattle.std.proofs.lemmas.List.{length-drop, length-take-le, Sums.{sum_by_more_le}}
use Rattle.array_maps.specs.MapList.{base_of}
use Rattle.bpfspec_machine.specs.Elements.{has_words}

-- the map is there
pub has_map : (sizes : List ℕ) (map count : ℕ) → has_words sizes map count ≡ true → map < length sizes
has_map [] map count has = absurd (cc)
has_map (size ∷ sizes) zero count has = omega arith
has_map (size ∷ sizes) (suc map) count has = let rest = has_map sizes map count has in omega (arith, rest)

-- it has this many elements
pub has_count : (sizes : List ℕ) (map count : ℕ) → has_words sizes map count ≡ true → slice_index sizes map ≡ count
has_count [] map count has = absurd (cc)
has_count (size ∷ sizes) zero count has = eqb-true size count has
has_count (size ∷ sizes) (suc map) count has = has_count sizes map count has

-- they lie within the words
pub words_within : (sizes : List ℕ) (words map count : ℕ) → words ≡ sum sizes → has_words sizes map count ≡ true
    → base_of sizes map + count ≤ words
words_within sizes words map count are has =
    let more = sum_by_more_le (λ x. x) sizes map 0 (has_map sizes map count has) in
    let size = has_count sizes map count has in
    omega (arith, are, more, size)

-- so many are copied
pub words_counted : (sizes words : List ℕ) (map count : ℕ) → length words ≡ sum sizes → has_words sizes map count ≡ true
    → length (slice_range words (base_of sizes map) (base_of sizes map + slice_index sizes map)) ≡ count
words_counted sizes words map count are has =
    let within = words_within sizes (length words) map count are has in
    let size = has_count sizes map count has in
    let left = length-drop (base_of sizes map) words in
    let taken = length-take-le (base_of sizes map + slice_index sizes map - base_of sizes map)
    (drop (base_of sizes map) words) (omega (arith, within, size, left)) in
    omega (arith, taken, size)
