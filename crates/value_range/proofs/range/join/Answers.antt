-- The joined bounds have the numbers of both.
use Rattle.value_range.proofs.SpanLaws.{join-span, join-first, join-second}
use Rattle.value_range.proofs.range.join.Goals as goal

pub invariant_of-result : goal.invariant_of-result
invariant_of-result c =
    rw (c.min.ensures, c.max.ensures, c.min-2.ensures)
    (join-span _ _ c.a.invariant c.b.invariant)

pub returns-clause-first : goal.returns-clause-first
returns-clause-first c =
    rw (c.min.ensures, c.max.ensures, c.min-2.ensures, ← c.a.view_is)
    (join-first _ _)

pub returns-clause-second : goal.returns-clause-second
returns-clause-second c =
    rw (c.min.ensures, c.max.ensures, c.min-2.ensures, ← c.b.view_is)
    (join-second _ _)
