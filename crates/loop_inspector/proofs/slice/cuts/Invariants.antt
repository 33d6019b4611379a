use Rattle.std.proofs.Common.{List, take}
use Rattle.row_facts.specs.declared.site.Site.{Site}
use Rattle.loop_inspector.specs.{declared.reach.Span.{Span}, Slices.{AreCuts, AreOpens}}
use Rattle.loop_inspector.proofs.slice.cuts.Given as goal

abbrev pub invariant-loop-k : goal.invariant-loop-k
invariant-loop-k l = (sites : List Site) (spans : List Span) → AreOpens sites spans l.list.list.items l.opens
    → AreCuts sites spans l.needed l.list.result (take l.k l.list.list.items) l.cuts.items
