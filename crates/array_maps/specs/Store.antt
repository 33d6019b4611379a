-- What a list of accesses does to a store.
use Rattle.std.specs.Prelude.{◌≡◌, List, [], ◌∷◌}
use Rattle.array_maps.specs.Accesses.{Access}

-- accesses in order lead from one store to another, each by its effect
abbrev pub Effects : {S : Type 0} → (S → Access → S → Type 0) → S → List Access → S → Type 0
Effects effect old [] new = new ≡ old
Effects effect old (access ∷ accesses) new = (between : _) × effect old access between
    × Effects effect between accesses new
