use Rattle.std.proofs.Common.{◌≡◌, length}
use Rattle.row_facts.specs.Facts.{AreFacts}
use Rattle.row_facts.proofs.transfer.facts.Given as goal

abbrev pub invariant-loop-op : goal.invariant-loop-op
invariant-loop-op l = (length l.facts.items ≡ l.op-index) × AreFacts l.ops l.facts.items
