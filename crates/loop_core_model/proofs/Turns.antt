-- Any chains of accesses, one after the other. Nothing is known of what made them: each access says what it saw and
-- left, and a chain fits words where each saw what was there.
use Rattle.std.proofs.Common.{◌≡◌, ℕ, ◌<◌, List, [], ◌∷◌, ◌++◌, length, refl, sym, ◌∙◌, ap, subst}
use Rattle.std.specs.{Prelude.{slice_index, ◌==◌}, List.{AllByRecursion}}
use Rattle.std.proofs.{Common.{inl, inr}, lemmas.{Bool.{cases_Bool}, List.FromFn.{fill_by_all}}}
use Rattle.array_maps.specs.Accesses.{Access, left_by_all, SawEach, actions_at, words_after_all}
use Rattle.array_maps.proofs.ElementLaws.{element_after_all, length-words_after_all}
use Rattle.loop_core_model.specs.{Actions.{joined}, Conflict.{at_element}, Committed.{committed, committed_words}}
use Rattle.loop_core_model.proofs.OneElement.{Holds, Unharmed, holds_saw, holds_next, holds_at_start, left-committed}

-- each access of the chain saw what was there
abbrev pub Saws : List Access → List ℕ → Type 0
Saws accesses words = (e : ℕ) → e < length words → SawEach (actions_at e accesses) (slice_index words e)

-- each chain in turn saw what the ones before it left
abbrev pub InTurn : List (List Access) → List ℕ → Type 0
InTurn [] words = Unit {0}
InTurn (accesses ∷ runs) words = Saws accesses words × InTurn runs (words_after_all accesses words)

pub actions_at-append : (e : ℕ) (xs ys : List Access) → actions_at e (xs ++ ys) ≡ actions_at e xs ++ actions_at e ys
actions_at-append e [] ys = refl
actions_at-append e (x ∷ xs) ys = elim (cases_Bool (x.element == e)) [
  | inl here ↦ rw here (ap (λ actions. x.action ∷ actions) (actions_at-append e xs ys))
  | inr other ↦ rw other (actions_at-append e xs ys)
]

actions_at-joined : (e : ℕ) (runs : List (List Access)) → actions_at e (joined runs) ≡ joined (at_element e runs)
actions_at-joined e [] = refl
actions_at-joined e (run ∷ runs) = actions_at-append e run (joined runs) ∙ ap (λ actions. actions_at e run ++ actions)
    (actions_at-joined e runs)

pub words_after_all-append : (xs ys : List Access) (words : List ℕ) → words_after_all (xs ++ ys) words ≡ words_after_all
    ys (words_after_all xs words)
words_after_all-append [] ys words = refl
words_after_all-append (x ∷ xs) ys words = words_after_all-append xs ys _

-- what has to be known of every element before the chains to come
abbrev pub HoldsEach : (start now : List ℕ) → List (List Access) → Type 0
HoldsEach start now runs = (e : ℕ) → e < length start → Holds (slice_index start e) (slice_index now e)
    (at_element e runs)

-- chains that each fit the start words fit in turn
pub in_turn : (runs : List (List Access)) (start now : List ℕ) → length now ≡ length start →
    AllByRecursion (λ accesses. Saws accesses start) runs → HoldsEach start now runs → InTurn runs now
in_turn [] start now same saws holds = tt
in_turn (accesses ∷ runs) start now same saws holds =
    let inside : (e : ℕ) → e < length now → e < length start = λ e h. subst (λ (n : ℕ). e < n) same h in
    let inside' : (e : ℕ) → e < length start → e < length now = λ e h. subst (λ (n : ℕ). e < n) (sym same) h in (
      λ e h. holds_saw (slice_index start e) (slice_index now e) (actions_at e accesses) (at_element e runs)
          (saws.0 e (inside e h)) (holds e (inside e h)),
      in_turn runs start (words_after_all accesses now) (length-words_after_all accesses now ∙ same) saws.1
          (λ e h. subst (λ (word : ℕ). Holds (slice_index start e) word (at_element e runs))
          (sym (element_after_all accesses now e (inside' e h)))
          (holds_next (slice_index start e) (slice_index now e) (actions_at e accesses) (at_element e runs)
          (holds e h))),
    )

-- no element of n is harmed
abbrev pub UnharmedEach : List (List Access) → ℕ → Type 0
UnharmedEach runs elements = (e : ℕ) → e < elements → Unharmed (at_element e runs)

pub in_turn_at_start : (runs : List (List Access)) (start : List ℕ) → AllByRecursion (λ accesses. Saws accesses start)
    runs →
    UnharmedEach runs (length start) → InTurn runs start
in_turn_at_start runs start saws unharmed =
    in_turn runs start start refl saws (λ e h. holds_at_start (slice_index start e) (at_element e runs) (unharmed e h))

-- all chains leave what is committed
pub all_committed : (runs : List (List Access)) (start : List ℕ) → UnharmedEach runs (length start) →
    words_after_all (joined runs) start ≡ committed_words runs start
all_committed runs start unharmed =
    fill_by_all (λ e. committed (at_element e runs) (slice_index start e)) (words_after_all (joined runs) start)
    (length start) 0
    (length-words_after_all (joined runs) start)
    (λ e h. element_after_all (joined runs) start e h ∙ ap (λ actions. left_by_all actions (slice_index start e))
    (actions_at-joined e runs)
    ∙ left-committed (slice_index start e) (at_element e runs) (unharmed e h))
