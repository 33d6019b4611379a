-- A block that was run, as contracts see it.
use Rattle.std.specs.Prelude.{◌≡◌, ℕ, Option}
use Rattle.shadow_marks.specs.declared.planes.Planes.{Planes}
use Rattle.private_copy.specs.Copies.{PrivateCopy}

-- its number in the split, its interval, the index at which it broke, the marks of its iterations, and the copy that
-- they used
pub record BlockOf : Type 0 where
  pub number : ℕ
  pub first : ℕ
  pub past : ℕ
  pub broke : Option ℕ
  pub planes : Planes
  pub copy : PrivateCopy

-- the same block, but for the marks of its iterations
pub record HasOtherPlanes (old new : BlockOf) : Type 0 where
  pub number : new.number ≡ old.number
  pub first : new.first ≡ old.first
  pub past : new.past ≡ old.past
  pub broke : new.broke ≡ old.broke
  pub copy : new.copy ≡ old.copy
