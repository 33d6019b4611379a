use Rattle.std.{proofs.Common.{◌≡◌, ◌<◌, length, vec_len}, specs.List.{AllByRecursion}}
use Rattle.loop_core_trace.specs.Journals.{Undoes}
use Rattle.loop_core_trace.proofs.following.trace_iteration.Given as goal

abbrev pub invariant-loop-note : goal.invariant-loop-note
invariant-loop-note l = Undoes l.journal.items l.maps l.fn.maps

abbrev pub decreases-loop-note : goal.decreases-loop-note
decreases-loop-note l = vec_len l.journal
