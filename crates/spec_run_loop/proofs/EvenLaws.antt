-- A loop that is split evenly.
use Rattle.std.proofs.Common.{◌≡◌, ℕ, ◌<◌, ◌≤◌, None, arith}
use Rattle.loop_core_model.{specs.Split.{split_fault, even_bounds}, proofs.EvenSplitLaws.{even_is_split}}

-- each loop can be split evenly into 1 to 64 blocks
pub even_is : (n blocks : ℕ) → 0 < blocks → blocks ≤ 64 → split_fault (even_bounds n blocks) n ≡ None
even_is n blocks more few = even_is_split.split n blocks (omega (arith, more)) few
