-- The blocks of a split. Block k goes from bound k up to, and not with, bound k + 1.
use Rattle.std.specs.Prelude.{ℕ, ◌+◌, ◌-◌, List, length, slice_index}

-- how many blocks bounds have
abbrev pub blocks_of : List ℕ → ℕ
blocks_of bounds = length bounds - 1

-- the first index of a block
abbrev pub start_of : List ℕ → ℕ → ℕ
start_of bounds block = slice_index bounds block

-- the index after its last one; it is the first where the block is empty
abbrev pub end_of : List ℕ → ℕ → ℕ
end_of bounds block = slice_index bounds (block + 1)
