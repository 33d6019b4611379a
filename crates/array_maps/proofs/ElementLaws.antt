-- A list of accesses acts on each element by itself.
use Rattle.std.proofs.Common.{◌≡◌, ℕ, ◌<◌, Bool, true, false, List, [], ◌∷◌, length, slice_set, refl, sym, ◌∙◌, ap}
use Rattle.std.{proofs.{Common.{subst}, Math.ListN.{length-set}}, specs.Prelude.{slice_index, if◌then◌else◌, ◌==◌}}
use Rattle.std.proofs.lemmas.{Bool.{eqb-true, eqb-false}, List.{get_or-set_same, get_or-set_other}}
use Rattle.array_maps.specs.Accesses.{Access, left_by, left_by_all, actions_at, words_after, words_after_all}

-- an access makes no element and loses none
pub length-words_after : (access : Access) (words : List ℕ) → length (words_after access words) ≡ length words
length-words_after access words = length-set words access.element _

pub length-words_after_all : (accesses : List Access) (words : List ℕ) → length (words_after_all accesses words)
    ≡ length words
length-words_after_all [] words = refl
length-words_after_all (access ∷ accesses) words = length-words_after_all accesses (words_after access words)
    ∙ length-words_after access words

-- what the access does at an element, where it is of this element and where it isn't
at_head : (access : Access) (accesses : List Access) (words : List ℕ) (e : ℕ) (here : Bool)
    → (access.element == e) ≡ here → e < length words →
    left_by_all (actions_at e accesses) (slice_index (words_after access words) e)
    ≡ left_by_all (if here then access.action ∷ actions_at e accesses else actions_at e accesses) (slice_index words e)
at_head access accesses words e true same inside =
    let at_e : access.element ≡ e = eqb-true access.element e same in
    let set_here : slice_index (words_after access words) e ≡ left_by access.action (slice_index words e) =
    subst (λ (k : ℕ). slice_index (slice_set words k (left_by access.action (slice_index words k))) e
    ≡ left_by access.action (slice_index words e)) (sym at_e)
    (get_or-set_same words e (left_by access.action (slice_index words e)) 0 inside) in
    ap (left_by_all (actions_at e accesses)) set_here
at_head access accesses words e false other inside =
    ap (left_by_all (actions_at e accesses)) (get_or-set_other words access.element e _ 0 (λ h. eqb-false access.element
    e other (sym h)))

pub element_after_all : (accesses : List Access) (words : List ℕ) (e : ℕ) → e < length words →
    slice_index (words_after_all accesses words) e ≡ left_by_all (actions_at e accesses) (slice_index words e)
element_after_all [] words e inside = refl
element_after_all (access ∷ accesses) words e inside =
    element_after_all accesses (words_after access words) e
    (subst (λ (n : ℕ). e < n) (sym (length-words_after access words)) inside)
    ∙ at_head access accesses words e (access.element == e) refl inside
