-- What lanes do at one site, applied.
use Rattle.std.specs.Prelude.{ℕ, ◌<◌, ◌≤◌, List, length, slice_index}
use Rattle.loop_core_model.specs.Effects.{words_after_lane_effects}
use Rattle.lane_stamps.specs.declared.{applying.Visit.{Visit}, kind.Kind.{Kind}}
use Rattle.lane_stamps.specs.Sites.{LiesBelow, effect_if, is_of_halves}

-- the words after what the first lanes do at a visit with values
abbrev pub words_after : Kind → Visit → (values : List ℕ) → (lanes : ℕ) → List ℕ → List ℕ
words_after kind visit values =
    words_after_lane_effects (effect_if kind visit.mask.now visit.places.now (slice_index values))

-- each lane of a visit has a value, and its element is below a number
pub record AreReady (kind : Kind) (visit : Visit) (values : List ℕ) (elements : ℕ) : Type 0 where
  pub room : visit.count ≤ 512
  pub long : visit.count ≤ length values
  pub within : (lane : ℕ) → lane < visit.count
      → LiesBelow elements (is_of_halves kind) visit.mask.now visit.places.now lane
