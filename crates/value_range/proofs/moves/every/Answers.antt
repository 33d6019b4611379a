-- Every number is a multiple of 1.
use Rattle.std.proofs.Common.{refl}
use Rattle.value_range.specs.Spans.{rounded_up, rounded_down, norm}
use Rattle.value_range.proofs.moves.every.Goals as goal

pub returns-in-B16 : goal.returns-in-B16
unfolding norm rounded_up rounded_down
returns-in-B16 c = rw (c.norm.ensures, c.in-B16.is) refl
