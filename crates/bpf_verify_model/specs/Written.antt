-- Which bytes of a frame are written: a Bool for each, the lowest byte first.
use Rattle.std.specs.Prelude.{ℕ, ◌+◌, ◌&&◌, Bool, true, false, List, ◌++◌, map, take, drop, replicate, slice_range, zip}
use Rattle.std.specs.List.{list_all}

-- no byte of a frame is written
unfoldable pub none_written : List Bool
none_written = replicate 512 false

-- whether n bytes from a position on are written
abbrev pub all_written : List Bool → ℕ → ℕ → Bool
all_written written position size = list_all (λ byte. byte) (slice_range written position (position + size))

-- what is written after a write of n bytes from a position on
abbrev pub written_from : List Bool → ℕ → ℕ → List Bool
written_from written position size = take position written ++ replicate size true ++ drop (position + size) written

-- a byte is written where it is on both edges
abbrev pub joined_written : List Bool → List Bool → List Bool
joined_written xs ys = map (λ (pair : Bool × Bool). pair.0 && pair.1) (zip xs ys)
