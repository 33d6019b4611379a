-- Forms of places.
use Rattle.std.specs.Prelude.{◌≡◌, ℕ, ◌+◌, ◌<◌, ◌≤◌, Bool, true}
use Rattle.lane_rows.specs.{declared.places.Places.{Places}, Rows.{place_at}}
use Rattle.lane_stamps.specs.declared.forms.Form.{Form, TheVariants.{One, Run, Any}}
use Rattle.lane_stamps.specs.Sites.{element_named, half_named}

-- the first lanes all have one place
abbrev pub IsPlace : (place : ℕ) → Places → (count : ℕ) → Type 0
IsPlace place places count = (lane : ℕ) → lane < count → place_at places lane ≡ place

-- the elements of the first lanes run from that of a place on, and it says which halves
pub record RunsFrom (halves : Bool) (first : ℕ) (places : Places) (count : ℕ) : Type 0 where
  pub element : (lane : ℕ) → lane < count
      → element_named halves (place_at places lane) ≡ element_named halves first + lane
  pub half : (lane : ℕ) → lane < count → halves ≡ true → half_named (place_at places lane) ≡ half_named first

-- so places of a form are, and all elements are below a number
abbrev pub IsFormOf : Form → (halves : Bool) → Places → (count elements : ℕ) → Type 0
IsFormOf (One place) halves places count elements =
    IsPlace place places count × (element_named halves place < elements)
IsFormOf (Run first) halves places count elements =
    RunsFrom halves first places count × (element_named halves first + count ≤ elements)
IsFormOf Any halves places count elements = Unit {0}
