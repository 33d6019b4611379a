-- Bounds that split some number of iterations.
use Rattle.std.specs.Prelude.{◌≡◌, ℕ, List, None}
use Rattle.loop_core_model.specs.Split.{last_bound, split_fault}

-- without a fault as a split of as many iterations as the last bound says
abbrev pub IsSplit : List ℕ → Type 0
IsSplit bounds = split_fault bounds (last_bound 0 bounds) ≡ None
