-- An access that tests make.
use Rattle.std.specs.Prelude.{ℕ}
use Rattle.array_maps.specs.{declared.access.Op.TheVariants.{Add}, Accesses.{Access, Reduce}}

-- an operand added to an element
abbrev pub addition : ℕ → ℕ → Access
addition operand element = record { element = element; action = Reduce Add operand }
