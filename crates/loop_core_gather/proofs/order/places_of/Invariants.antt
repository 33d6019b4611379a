use Rattle.std.proofs.Common.{map}
use Rattle.loop_core_block.specs.Shown.{shown}
use Rattle.loop_core_gather.proofs.OrderLaws.{OrderSoFar}
use Rattle.loop_core_gather.proofs.order.places_of.Given as goal

abbrev pub invariant-loop-number : goal.invariant-loop-number
invariant-loop-number l = OrderSoFar l.least (map shown l.blocks) l.split l.places.items l.number
