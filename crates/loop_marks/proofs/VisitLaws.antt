-- What iterations did, as visits and as touches.
use Rattle.std.proofs.Common.{◌≡◌, ℕ, zero, suc, ◌+◌, List, [], ◌∷◌, ◌++◌, map, slice_index, refl, ◌∙◌, ap, arith}
use Rattle.std.specs.List.{range_with_len}
use Rattle.array_maps.specs.Accesses.{Access, actions_at}
use Rattle.loop_core_model.specs.{declared.access.Access.{Access as Kind}, Flags.{kind_of}, Conflict.{at_element}}
use Rattle.loop_core_model.specs.{Marks.{Visit, numbered}, Effects.{kind_of_deed, words_after_effect}}
use Rattle.loop_core_model.specs.Effects.{Deed, Load, Store, Fetch, Replace, Apply, Effect, accesses_on, action_on}
use Rattle.loop_marks.specs.{Touches.{Touch, touch_by, touches_of}, Visits.{visits_below}}

-- an iteration's visit to an element
abbrev pub visit_of : (made : ℕ → List Access) → (e n : ℕ) → Visit
visit_of made e n = record { index = n; actions = actions_at e (made n) }

-- the iterations from an index on at an element, one more at the end
numbered_more : (made : ℕ → List Access) (e count index : ℕ)
    → numbered index (at_element e (map made (range_with_len index (suc count))))
    ≡ numbered index (at_element e (map made (range_with_len index count)))
    ++ visit_of made e (index + count) ∷ []
numbered_more made e zero index =
    let here : index ≡ index + 0 = omega arith in
    ap (λ (n : ℕ). visit_of made e n ∷ []) here
numbered_more made e (suc count) index =
    let there : index + 1 + count ≡ index + suc count = omega arith in
    ap (λ (rest : List Visit). visit_of made e index ∷ rest)
    (numbered_more made e count (index + 1)
    ∙ ap (λ (n : ℕ). numbered (index + 1) (at_element e (map made (range_with_len (index + 1) count)))
    ++ visit_of made e n ∷ []) there)

pub visits_are : (made : ℕ → List Access) (e n : ℕ) → numbered 0 (at_element e (map made (range_with_len 0 n)))
    ≡ visits_below made n e
visits_are made e zero = refl
visits_are made e (suc n) =
    let same : 0 + n ≡ n = omega arith in
    numbered_more made e n 0
    ∙ ap (λ (k : ℕ). numbered 0 (at_element e (map made (range_with_len 0 n))) ++ visit_of made e k ∷ []) same
    ∙ ap (λ (visits : List Visit). visits ++ visit_of made e n ∷ []) (visits_are made e n)

-- what effects touch hangs on no word
kind_on : (deed : Deed) (word : ℕ) → kind_of (action_on deed word) ≡ kind_of_deed deed
kind_on (Load part) word = refl
kind_on (Store left) word = refl
kind_on (Fetch left) word = refl
kind_on (Replace half number fetches) word = refl
kind_on (Apply op operand) word = refl

abbrev touch_with : ℕ → Kind → Touch
touch_with element kind = record { element = element; kind = kind }

pub touches_on : (effects : List Effect) (words : List ℕ) → touches_of (accesses_on words effects)
    ≡ map touch_by effects
touches_on [] words = refl
touches_on (effect ∷ effects) words =
    ap (λ (kind : Kind). touch_with effect.element kind
    ∷ touches_of (accesses_on (words_after_effect effect words) effects))
    (kind_on effect.deed (slice_index words effect.element))
    ∙ ap (λ (rest : List Touch). touch_by effect ∷ rest) (touches_on effects (words_after_effect effect words))
