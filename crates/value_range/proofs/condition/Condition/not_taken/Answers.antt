-- The opposite of a comparison says that it doesn't hold.
use Rattle.value_range.proofs.ConditionLaws.{opposite_says}
use Rattle.value_range.proofs.condition.Condition.not_taken.Goals as goal

pub returns-clause-meaning : goal.returns-clause-meaning
returns-clause-meaning c = rw c.opposite_of.ensures (opposite_says c.args.compare)
