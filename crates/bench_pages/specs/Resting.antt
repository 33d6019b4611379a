-- A private copy between iterations.
use Rattle.std.specs.Prelude.{◌≡◌, ℕ, false, length}
use Rattle.shadow_marks.specs.{declared.planes.Planes.{Planes}, Standing.{ArePlanes}}
use Rattle.private_copy.specs.{declared.private.Private.{Private}, Shown.{copy_of}}

-- no iteration is active, this many were begun, and the planes are for the copy's elements
pub record Rests (copy : Private) (planes : Planes) (many : ℕ) : Type 0 where
  pub ended : (copy_of copy).under_way ≡ false
  pub begun : (copy_of copy).begun ≡ many
  pub whole : ArePlanes planes
  pub elements : planes.elements ≡ length (copy_of copy).start
