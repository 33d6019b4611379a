use Rattle.loop_core_sequential.proofs.NotingLaws.{run_noted_all}
use Rattle.loop_core_sequential.proofs.noting.note.Goals as goal

pub returns-in-Run : goal.returns-in-Run
returns-in-Run c =
    run_noted_all _ c.args.lanes c.args.halves c.args.mask.now c.args.places.now _ _ c.if-not-mask.false
    c.requires.within c.in-Run.first c.in-Run.ensures.0 (rw c.element_of-in-Run.ensures at c.mark_run.ensures)
