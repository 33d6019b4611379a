-- What iterations did at an element.
use Rattle.std.specs.Prelude.{ℕ, zero, suc, List, [], ◌∷◌, ◌++◌}
use Rattle.array_maps.specs.Accesses.{Access, actions_at}
use Rattle.loop_core_model.specs.Marks.{Visit}

-- at an element, what the first n iterations did of which these are the accesses
abbrev pub visits_below : (made : ℕ → List Access) → (n e : ℕ) → List Visit
visits_below made zero e = []
visits_below made (suc n) e = visits_below made n e ++ (record { index = n; actions = actions_at e (made n) }) ∷ []
