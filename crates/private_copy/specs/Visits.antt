-- The iterations of a copy, as planes list them.
use Rattle.std.specs.Prelude.{ℕ, List}
use Rattle.array_maps.specs.Accesses.{Access}
use Rattle.loop_core_model.specs.{Conflict.{at_element}, Marks.{Visit, numbered}}

-- at each element, what iterations did there, which stand by rising index from a first one on
abbrev pub visits_of : (first : ℕ) → List (List Access) → ℕ → List Visit
visits_of first runs e = numbered first (at_element e runs)
