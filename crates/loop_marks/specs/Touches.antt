-- What iterations touch: their accesses but for the words that they see and leave.
use Rattle.std.specs.Prelude.{ℕ, ◌==◌, if◌then◌else◌, List, [], ◌∷◌, map}
use Rattle.array_maps.specs.Accesses.{Access}
use Rattle.loop_core_model.specs.{declared.access.Access.{Access as Kind}, Flags.{Flags, flagged, kind_of}}
use Rattle.loop_core_model.specs.Effects.{Effect, kind_of_deed}

-- an element, and the kind of an access of it
pub record Touch : Type 0 where
  pub element : ℕ
  pub kind : Kind

abbrev pub touch_of : Access → Touch
touch_of access = record { element = access.element; kind = kind_of access.action }

-- what accesses touch, in order
abbrev pub touches_of : List Access → List Touch
touches_of accesses = map touch_of accesses

-- what an effect touches, on any words
abbrev pub touch_by : Effect → Touch
touch_by effect = record { element = effect.element; kind = kind_of_deed effect.deed }

-- flags at an element after more is touched, in order
abbrev pub flags_after : Flags → (e : ℕ) → List Touch → Flags
flags_after flags e [] = flags
flags_after flags e (touch ∷ touches) =
    flags_after (if touch.element == e then flagged flags touch.kind else flags) e touches
