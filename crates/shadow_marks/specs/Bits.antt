-- One element of a plane changed.
use Rattle.std.specs.Prelude.{◌≡◌, ◌≢◌, ℕ, Bool, ◌&&◌, ◌||◌, ◌==◌, List, length, slice_index}
use Rattle.loop_core_model.specs.Planes.{bit_of}

-- a plane after a bit is ored into an element's
pub record OrsBit (old new : List ℕ) (e : ℕ) (bit : Bool) : Type 0 where
  pub count : length new ≡ length old
  pub bits : (k : ℕ) → bit_of new k ≡ (bit_of old k || (bit && (k == e)))

-- numbers after one of them is changed
pub record ChangesNumber (old new : List ℕ) (e : ℕ) (number : ℕ) : Type 0 where
  pub count : length new ≡ length old
  pub here : slice_index new e ≡ number
  pub others : (k : ℕ) → k ≢ e → slice_index new k ≡ slice_index old k
