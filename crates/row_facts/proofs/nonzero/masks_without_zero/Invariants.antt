use Rattle.std.proofs.Common.{◌≡◌, length}
use Rattle.row_facts.specs.Nonzero.{AreNonzeroIn}
use Rattle.row_facts.proofs.nonzero.masks_without_zero.Given as goal

abbrev pub invariant-loop-k : goal.invariant-loop-k
invariant-loop-k l = (length l.masks.items ≡ l.k) × AreNonzeroIn l.ops l.masks.items l.value
