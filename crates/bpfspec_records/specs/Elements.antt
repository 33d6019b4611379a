-- Elements of all maps, and of one.
use Rattle.std.specs.Prelude.{ℕ, ◌+◌, ◌-◌, nat_lt, if◌then◌else◌, List, [], ◌∷◌}

-- the map of an element, and the element's number in it, by the sizes of the maps from this one on
abbrev pub map_from : ℕ → List ℕ → ℕ → ℕ × ℕ
map_from map [] element = (map, element)
map_from map (size ∷ sizes) element =
    if nat_lt element size then (map, element) else map_from (map + 1) sizes (element - size)

-- the map of an element of all maps, and its number there
abbrev pub map_of : List ℕ → ℕ → ℕ × ℕ
map_of sizes element = map_from 0 sizes element
