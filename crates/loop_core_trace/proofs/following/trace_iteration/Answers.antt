use Rattle.loop_core_trace.proofs.JournalLaws.{one_undone}
use Rattle.loop_core_trace.proofs.following.trace_iteration.Goals as goal

pub loop-note-preserved : goal.loop-note-preserved
loop-note-preserved c =
    one_undone c.loop-note.journal.items c.pop.new.self.items c.in-Some.note c.loop-note.maps c.store.new.self
    c.args.maps.now c.in-Some.ensures.items c.store.ensures.done c.loop-note.invariant
