-- A word without reduction-only elements, bit by bit.
use Rattle.std.proofs.Common.{◌≡◌, ℕ, ◌/◌, ◌%◌, ◌^◌, ◌<◌, Bool, true, false, List, [], ◌∷◌, map, refl, ◌∙◌, ap, w64}
use Rattle.std.specs.{Prelude.{◌==◌, ◌&&◌, ◌||◌, not, slice_index, bit_and, bit_or}, Int.{bit_not}, List.{count_by}}
use Rattle.std.proofs.{Common.{arith}, Math.Nat.{mod-lt}, lemmas.Nat.Bits.{bit_at-zero}}
use Rattle.array_maps.specs.declared.access.Op.TheVariants.{Add, Or, And, Xor, AddH}
use Rattle.loop_core_model.specs.Marks.{Marks, marked_reduction}
use Rattle.shadow_marks.specs.{declared.planes.Planes.{Planes}, Standing.{StandAt}}
use Rattle.lane_planes.specs.{Words.{in_some, in_two, without_reductions}, Conflicts.{words_by, cleared_word}}
use Rattle.lane_planes.proofs.BitMeaning.{bit, bit-and, bit-or, bit-not}

-- of flags, whether some are set and whether two are
abbrev some_of : List Bool → Bool
some_of [] = false
some_of (b ∷ rest) = some_of rest || b

abbrev two_of : List Bool → Bool
two_of [] = false
two_of (b ∷ rest) = two_of rest || (some_of rest && b)

abbrev at : ℕ → List ℕ → List Bool
at k words = map (λ word. bit word k) words

some_bit : (words : List ℕ) (k : ℕ) → bit (in_some words) k ≡ some_of (at k words)
some_bit [] k = ap (λ x. x == 1) (bit_at-zero k)
some_bit (word ∷ rest) k = bit-or (in_some rest) word k ∙ ap (λ b. b || bit word k) (some_bit rest k)

two_bit : (words : List ℕ) (k : ℕ) → bit (in_two words) k ≡ two_of (at k words)
two_bit [] k = ap (λ x. x == 1) (bit_at-zero k)
two_bit (word ∷ rest) k =
    bit-or (in_two rest) (bit_and (in_some rest) word) k
    ∙ rw (bit-and (in_some rest) word k, two_bit rest k, some_bit rest k) refl

-- a bit stays where a plain access is, or two operators are, or none is
abbrev stays : Bool → List Bool → Bool
stays plain by = (plain || two_of by) || not (some_of by)

cleared_bit : (word plain : ℕ) (by : List ℕ) (k : ℕ) → k < 64 → in_some by < 2 ^ 64
    → bit (without_reductions word plain by) k ≡ (bit word k && stays (bit plain k) (at k by))
cleared_bit word plain by k small fits =
    bit-and word (bit_or (bit_or plain (in_two by)) (bit_not w64 (in_some by))) k
    ∙ ap (λ b. bit word k && b)
    (bit-or (bit_or plain (in_two by)) (bit_not w64 (in_some by)) k
    ∙ rw (bit-or plain (in_two by) k, bit-not (in_some by) k fits small, two_bit by k, some_bit by k) refl)

-- a flag for each operator
stays_is : (plain add or and xor addh : Bool) → stays plain (addh ∷ xor ∷ and ∷ or ∷ add ∷ [])
    ≡ not (not plain && (count_by (λ (b : Bool). b) (add ∷ or ∷ and ∷ xor ∷ addh ∷ []) == 1))
stays_is true add or and xor addh = refl
stays_is false add or and xor addh = grind arith

-- of an element with these marks
pub marked_bit : (planes : Planes) (word e : ℕ) (marks : Marks) → in_some (words_by planes.operators (e / 64)) < 2 ^ 64
    → StandAt planes e marks
    → bit (cleared_word planes word (e / 64)) (e % 64) ≡ (bit word (e % 64) && not (marked_reduction marks))
marked_bit planes word e marks fits at_e =
    cleared_bit word (slice_index planes.plain.items (e / 64)) (words_by planes.operators (e / 64)) (e % 64)
    (mod-lt e (omega arith)) fits
    ∙ ap (λ b. bit word (e % 64) && b)
    ((λ i. stays (at_e.plain i) (at_e.by AddH i ∷ at_e.by Xor i ∷ at_e.by And i ∷ at_e.by Or i ∷ at_e.by Add i ∷ []))
    ∙ stays_is marks.plain (marks.by Add) (marks.by Or) (marks.by And) (marks.by Xor) (marks.by AddH))

-- a bit that isn't set stays so
pub clear_bit : (word plain : ℕ) (by : List ℕ) (k : ℕ) → bit word k ≡ false
    → bit (without_reductions word plain by) k ≡ false
clear_bit word plain by k clear = bit-and word (bit_or (bit_or plain (in_two by)) (bit_not w64 (in_some by))) k
    ∙ ap (λ b. b && bit (bit_or (bit_or plain (in_two by)) (bit_not w64 (in_some by))) k) clear
