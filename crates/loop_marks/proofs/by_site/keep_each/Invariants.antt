use Rattle.loop_marks.specs.SiteMarks.{KeepsNumbers, gets_to}
use Rattle.loop_marks.proofs.by_site.keep_each.Given as goal

abbrev pub invariant-loop-lane : goal.invariant-loop-lane
invariant-loop-lane l =
    KeepsNumbers l.greatest (gets_to l.reached.halves l.reached.mask.now l.reached.places.now) l.lane l.index
    l.fn.numbers l.numbers
