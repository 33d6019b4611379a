-- The number of two that is kept.
use Rattle.std.specs.Prelude.{ℕ, min, max}
use Rattle.lane_planes.specs.declared.kept.Kept.{Kept, TheVariants.{Lesser, Greater}}

abbrev pub kept_of : Kept → ℕ → ℕ → ℕ
kept_of Lesser a b = min a b
kept_of Greater a b = max a b
