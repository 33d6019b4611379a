use Rattle.loop_marks.specs.SiteMarks.{SetsBits, gets_to}
use Rattle.loop_marks.proofs.by_site.set_each.Given as goal

abbrev pub invariant-loop-lane : goal.invariant-loop-lane
invariant-loop-lane l =
    SetsBits (gets_to l.reached.halves l.reached.mask.now l.reached.places.now) l.lane l.fn.words l.words
