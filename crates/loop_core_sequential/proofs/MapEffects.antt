-- What accesses do to maps.
use Rattle.std.proofs.Common.{◌≡◌, ℕ, List, [], ◌∷◌, ap, ◌∙◌}
use Rattle.array_maps.specs.{Accesses.{Access, words_after}, MapList.{MapList}, Store.{Effects}}

-- an access changes the words alone
abbrev pub map_effect : MapList → Access → MapList → Type 0
map_effect old access new = new ≡ record { sizes = old.sizes; words = words_after access old.words }

-- so no access changes the sizes
pub sizes_kept : (old new : MapList) (accesses : List Access) → Effects map_effect old accesses new
    → new.sizes ≡ old.sizes
sizes_kept old new [] effects = ap (λ (maps : MapList). maps.sizes) effects
sizes_kept old new (access ∷ accesses) effects = sizes_kept effects.0 new accesses effects.2
    ∙ ap (λ (maps : MapList). maps.sizes) effects.1

-- maps are their sizes and their words
pub both_parts : (maps : MapList) (sizes words : List ℕ) → maps.sizes ≡ sizes → maps.words ≡ words
    → maps ≡ record { sizes = sizes; words = words }
both_parts maps sizes words a b = ap (λ (s : List ℕ). record { sizes = s; words = maps.words }) a
    ∙ ap (λ (ws : List ℕ). record { sizes = sizes; words = ws }) b
