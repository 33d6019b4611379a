-- Runs over any store.
use Rattle.std.proofs.Common.{◌≡◌, List, [], ◌∷◌, ◌++◌, ℕ, refl, subst}
use Rattle.array_maps.specs.{Accesses.{Access, words_after, words_after_all}, Store.{Effects}}

-- one access more at the end
pub effects-more : {S : Type 0} (effect : S → Access → S → Type 0) (old between new : S) (accesses : List Access)
    (access : Access) →
    Effects effect old accesses between → effect between access new → Effects effect old (accesses ++ access ∷ []) new
effects-more effect old between new [] access same last = (new, subst (λ s. effect s access new) same last, refl)
effects-more effect old between new (first ∷ accesses) access before last =
    (before.0, before.1, effects-more effect before.0 between new accesses access before.2 last)

pub words_after_all-more : (accesses : List Access) (access : Access) (words : List ℕ) →
    words_after_all (accesses ++ access ∷ []) words ≡ words_after access (words_after_all accesses words)
words_after_all-more [] access words = refl
words_after_all-more (first ∷ accesses) access words = words_after_all-more accesses access (words_after first words)
